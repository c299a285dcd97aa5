use Rattle.std.specs.Prelude.{codes}
use Rattle.smq_route.proofs.KnownNumberLemmas.{known-under}
use Rattle.smq_route.proofs.laws.known_numbers.Goals as goal

pub returns-clause-all : goal.returns-clause-all
returns-clause-all c = known-under (codes "447")

pub returns-clause-no_number_of_its_own : goal.returns-clause-no_number_of_its_own
returns-clause-no_number_of_its_own c = known-under (codes "4")

pub returns-clause-one_number : goal.returns-clause-one_number
returns-clause-one_number c = known-under (codes "4479")

pub returns-clause-longer : goal.returns-clause-longer
returns-clause-longer c = known-under (codes "44791")

pub returns-clause-other_digits : goal.returns-clause-other_digits
returns-clause-other_digits c = known-under (codes "448")
