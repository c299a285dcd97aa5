use Rattle.smq_kit.proofs.MapLemmas as maps
use Rattle.smq_kit.proofs.PlaceOrders.{places_total, places_exact}
use Rattle.smq_kit.proofs.maps.maps_by_place_are_one_by_one.Goals as goal

pub returns-clause-chosen : goal.returns-clause-chosen
returns-clause-chosen g c = λ f m q. maps.get-chosen places_total places_exact f m q

pub returns-clause-patched : goal.returns-clause-patched
returns-clause-patched g c = λ keys m n same. maps.patched-is places_total places_exact keys m n same

pub returns-clause-counted : goal.returns-clause-counted
returns-clause-counted g c = λ test m q v. maps.count-set places_total places_exact test m q v
