use Rattle.smq_present.proofs.lemmas.present.SameEdits.{batches, edits}
use Rattle.smq_present.proofs.laws.present.edit_eq_is_equality.Goals as goal

pub returns-clause-batches : goal.returns-clause-batches
returns-clause-batches c = batches

pub returns-clause-edits : goal.returns-clause-edits
returns-clause-edits c = edits
