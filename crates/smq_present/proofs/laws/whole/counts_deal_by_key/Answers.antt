use Rattle.smq_present.proofs.lemmas.whole.DealtByKey.{counts-dealt}
use Rattle.smq_present.proofs.laws.whole.counts_deal_by_key.Goals as goal

pub returns : goal.returns
returns c = λ s t here together view value outcome. counts-dealt s t view value outcome here together
