use Rattle.smq_desk.proofs.BoardSteps.{starts_itself, starts_on}
use Rattle.smq_desk.proofs.laws.beginnings_are_passed_on.Goals as goal

pub returns-clause-itself : goal.returns-clause-itself
returns-clause-itself c = starts_itself

pub returns-clause-passed_on : goal.returns-clause-passed_on
returns-clause-passed_on c = starts_on
