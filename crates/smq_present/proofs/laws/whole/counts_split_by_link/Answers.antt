use Rattle.smq_present.proofs.lemmas.whole.SplitByLink.{counts-split}
use Rattle.smq_present.proofs.laws.whole.counts_split_by_link.Goals as goal

pub returns : goal.returns
returns c = λ p here view value outcome. counts-split p here view value outcome
