use Rattle.smq_present.proofs.lemmas.present.RefusedBatches.{not_refused}
use Rattle.smq_present.proofs.laws.present.batches_that_fit_are_not_refused.Goals as goal

pub returns : goal.returns
returns c = not_refused
