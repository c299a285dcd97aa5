-- The order by which the code keeps listed places, that that of the definitions is total, and where a list begins.
use Rattle.std.specs.Prelude.{Bool, true, false}
use Rattle.std.specs.Cmp.{IsTotalOrder}
use Rattle.std.specs.declared.cmp.Ordering.{Ordering}
use Rattle.std.specs.List.{list_any}
use Rattle.std.specs.Ordering.{eq_by_cmp}
use Rattle.std.proofs.lemmas.Cmp.{on_total, then_total, nat_cmp_total}
use Rattle.smq_kit.specs.Orders.{least_place}
use Rattle.smq_kit.proofs.PlaceOrders.{places_total}
use Rattle.smq_tally.specs.declared.list.List as l
use Rattle.smq_tally.specs.declared.list.List.TheVariants as v
use Rattle.smq_tally.specs.declared.list.Listed.{Listed}
use Rattle.smq_tally.specs.contracts.list.ListedOrd.TheImpl as listed_ord
use Rattle.smq_tally.specs.declared.fact.Fact.{Fact}
use Rattle.smq_tally.specs.Lists.{list_rank, listed, listed_cmp, listings_of_fact}

-- the order by which the set of listed places compares them
abbrev pub kept_listed_cmp : Listed → Listed → Ordering
kept_listed_cmp = (listed_ord.ghosts).cmp

-- the order of listed places is total
pub listed_total : IsTotalOrder listed_cmp
listed_total = then_total (on_total (λ e. list_rank e.list) nat_cmp_total) (on_total (λ e. e.place) places_total)

-- whether two listed places are one
abbrev pub same_listed : Listed → Listed → Bool
same_listed a b = eq_by_cmp listed_cmp a b

-- whether a message stands there
abbrev pub lists : Listed → Fact → Bool
lists q f = list_any (same_listed q) (listings_of_fact f)

-- whether messages stand in a list for their outcome
abbrev pub takes_facts : l.List → Bool
takes_facts v.Open = true
takes_facts v.Lapsed = true
takes_facts _ = false

-- what comes before all others that a list can have
abbrev pub first_in : l.List → Listed
first_in list = listed list least_place
