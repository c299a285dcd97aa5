use Rattle.smq_route.proofs.Found.{route-longest, route-absent, absent-route, route-witness}
use Rattle.smq_route.proofs.laws.routes_are_of_the_longest_prefix.Goals as goal

pub returns : goal.returns
returns c = record { found = route-longest; none = route-absent; only_there = absent-route; witness = route-witness }
