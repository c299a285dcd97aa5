use Rattle.smq_present.proofs.lemmas.whole.DealtByKey.{part-together}
use Rattle.smq_present.proofs.laws.whole.parts_keep_keys_together.Goals as goal

pub returns : goal.returns
returns c = λ s t here there together. part-together s t here there together
