-- The order by which the code compares places. Orders.antt says which order that is.
use Rattle.std.specs.Prelude.{◌≡◌}
use Rattle.std.specs.declared.cmp.Ordering.{Ordering}
use Rattle.std.specs.Ordering.{nat_cmp, ordering_then, eq_by_cmp}
use Rattle.std.specs.Cmp.{IsTotalOrder, both_tied, unsigned_ties}
use Rattle.std.proofs.lemmas.Cmp.{on_total, then_total, nat_cmp_total}
use Rattle.smq_kit.specs.declared.place.Place.{Place}
use Rattle.smq_kit.specs.contracts.place.DirOrd.TheImpl as dir_ord
use Rattle.smq_kit.specs.contracts.place.DirOrd.TheImpl.Laws as dir_laws
use Rattle.smq_kit.specs.contracts.place.PlacePartialEq.TheImpl as place_eq

-- by session, then direction, then offset
abbrev pub parts_cmp : Place → Place → Ordering
parts_cmp a b =
    ordering_then (nat_cmp a.session.0 b.session.0)
    (ordering_then (dir_ord.ghosts.cmp a.dir b.dir) (nat_cmp a.offset b.offset))

pub parts_total : IsTotalOrder parts_cmp
parts_total = then_total (on_total (λ p. p.session.0) nat_cmp_total)
    (then_total (on_total (λ p. p.dir) dir_laws.total-law) (on_total (λ p. p.offset) nat_cmp_total))

-- `==` of places holds where it tells none first
pub parts_ties : (a b : Place) → place_eq.ghosts.eq a b ≡ eq_by_cmp parts_cmp a b
parts_ties a b = both_tied _ _ _ _ (unsigned_ties a.session.0 b.session.0)
    (both_tied _ _ _ _ (dir_laws.matches_eq-law a.dir b.dir) (unsigned_ties a.offset b.offset))
