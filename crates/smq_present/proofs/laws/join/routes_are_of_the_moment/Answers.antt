use Rattle.smq_present.proofs.lemmas.join.Routed.{route-told}
use Rattle.smq_present.proofs.laws.join.routes_are_of_the_moment.Goals as goal

pub returns-clause-fact : goal.returns-clause-fact
returns-clause-fact c = route-told
