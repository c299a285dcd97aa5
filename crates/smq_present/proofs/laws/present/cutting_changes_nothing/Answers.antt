use Rattle.smq_present.proofs.lemmas.present.Cutting.{same-tail, second-made, same-left}
use Rattle.smq_present.proofs.laws.present.cutting_changes_nothing.Goals as goal

pub returns-clause-made : goal.returns-clause-made
returns-clause-made c = second-made

pub returns-clause-left : goal.returns-clause-left
returns-clause-left c = same-left

pub returns-clause-tail : goal.returns-clause-tail
returns-clause-tail c = same-tail
