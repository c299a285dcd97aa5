use Rattle.std.proofs.Common.{List, ap}
use Rattle.std.specs.Prelude.{codes, filter, option_map}
use Rattle.smq_route.specs.Versions.{serves, longest}
use Rattle.smq_route.proofs.Least.{Entry}
use Rattle.smq_route.proofs.KnownVersions.{plan-route, none-there}
use Rattle.smq_route.proofs.laws.known_routes.Goals as goal

pub returns-clause-outer : goal.returns-clause-outer
returns-clause-outer c = plan-route (codes "447700900123") 0

pub returns-clause-before_from : goal.returns-clause-before_from
returns-clause-before_from c = plan-route (codes "447700900123") 999

pub returns-clause-from : goal.returns-clause-from
returns-clause-from c = plan-route (codes "447700900123") 1000

pub returns-clause-before_nested : goal.returns-clause-before_nested
returns-clause-before_nested c = plan-route (codes "447700900123") 1499

pub returns-clause-nested : goal.returns-clause-nested
returns-clause-nested c = plan-route (codes "447700900123") 1500

pub returns-clause-before_adjoining : goal.returns-clause-before_adjoining
returns-clause-before_adjoining c = plan-route (codes "447700900123") 1599

pub returns-clause-adjoining : goal.returns-clause-adjoining
returns-clause-adjoining c = plan-route (codes "447700900123") 1600

pub returns-clause-before_until : goal.returns-clause-before_until
returns-clause-before_until c = plan-route (codes "447700900123") 1699

pub returns-clause-until : goal.returns-clause-until
returns-clause-until c = plan-route (codes "447700900123") 1700

pub returns-clause-before_gap : goal.returns-clause-before_gap
returns-clause-before_gap c = plan-route (codes "447700900123") 1999

pub returns-clause-gap : goal.returns-clause-gap
returns-clause-gap c = plan-route (codes "447700900123") 2000

pub returns-clause-before_anew : goal.returns-clause-before_anew
returns-clause-before_anew c = plan-route (codes "447700900123") 2999

pub returns-clause-anew : goal.returns-clause-anew
returns-clause-anew c = plan-route (codes "447700900123") 3000

pub returns-clause-before_longest : goal.returns-clause-before_longest
returns-clause-before_longest c = plan-route (codes "447700900123") 3999

pub returns-clause-longest : goal.returns-clause-longest
returns-clause-longest c = plan-route (codes "447700900123") 4000

pub returns-clause-last_moment : goal.returns-clause-last_moment
returns-clause-last_moment c = plan-route (codes "447700900123") 4102444800000

pub returns-clause-itself : goal.returns-clause-itself
returns-clause-itself c = plan-route (codes "44") 1500

pub returns-clause-shorter : goal.returns-clause-shorter
returns-clause-shorter c = plan-route (codes "4") 1500

pub returns-clause-sibling : goal.returns-clause-sibling
returns-clause-sibling c = plan-route (codes "45") 1500

pub returns-clause-stranger : goal.returns-clause-stranger
returns-clause-stranger c = plan-route (codes "15") 1500

pub returns-clause-no_version : goal.returns-clause-no_version
returns-clause-no_version c = ap (λ (es : List Entry). option_map (λ e. (e.1.route, e.1.network))
    (longest (filter (serves (codes "44") 1500) es))) none-there
