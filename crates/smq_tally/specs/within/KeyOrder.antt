-- The order by which the code compares listed places.
use Rattle.std.specs.Prelude.{◌≡◌}
use Rattle.std.specs.declared.cmp.Ordering.{Ordering}
use Rattle.std.specs.Ordering.{ordering_then, eq_by_cmp}
use Rattle.std.specs.Cmp.{IsTotalOrder, both_tied}
use Rattle.std.proofs.lemmas.Cmp.{on_total, then_total}
use Rattle.smq_kit.specs.PlaceOrder.{parts_cmp as places_cmp, parts_total as places_total, parts_ties as places_ties}
use Rattle.smq_tally.specs.declared.list.Listed.{Listed}
use Rattle.smq_tally.specs.contracts.list.ListOrd.TheImpl as list_ord
use Rattle.smq_tally.specs.contracts.list.ListOrd.TheImpl.Laws as list_laws
use Rattle.smq_tally.specs.contracts.list.ListedPartialEq.TheImpl as listed_eq

-- listed places: by list, then by place
abbrev pub listed_parts_cmp : Listed → Listed → Ordering
listed_parts_cmp a b = ordering_then (list_ord.ghosts.cmp a.list b.list) (places_cmp a.place b.place)

pub listed_parts_total : IsTotalOrder listed_parts_cmp
listed_parts_total = then_total (on_total (λ e. e.list) list_laws.total-law) (on_total (λ e. e.place) places_total)

-- `==` of listed places holds where it tells none first
pub listed_parts_ties : (a b : Listed) → listed_eq.ghosts.eq a b ≡ eq_by_cmp listed_parts_cmp a b
listed_parts_ties a b = both_tied _ _ _ _ (list_laws.matches_eq-law a.list b.list) (places_ties a.place b.place)
