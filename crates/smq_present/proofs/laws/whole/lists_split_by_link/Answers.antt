use Rattle.smq_present.proofs.lemmas.whole.ListsSplitByLink.{lists-split}
use Rattle.smq_present.proofs.laws.whole.lists_split_by_link.Goals as goal

pub returns : goal.returns
returns c = λ p here list place. lists-split p here list place
