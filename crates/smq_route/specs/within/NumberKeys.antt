-- Numbers at places as a shelf keeps them: their order is total, and those that compare equal are one.
use Rattle.std.specs.Prelude.{ℕ, List}
use Rattle.std.proofs.Common.{ap, ◌∙◌}
use Rattle.std.specs.declared.cmp.Ordering.{Ordering}
use Rattle.std.specs.Cmp.{IsTotalOrder}
use Rattle.std.proofs.lemmas.Cmp.{nat_list_cmp_total, on_total, then_total}
use Rattle.std.specs.FinMap.{IsAntisymmetric, from_entries, nat_cmp-IsAntisymmetric, slice_cmp-IsAntisymmetric}
use Rattle.std.specs.FinSet.{FinSet}
use Rattle.smq_kit.specs.Orders.{octets_cmp, place_cmp}
use Rattle.smq_kit.proofs.Comparisons.{then_first, then_second}
use Rattle.smq_kit.proofs.PlaceOrders.{places_exact, places_total}
use Rattle.smq_route.specs.declared.numbers.NumberAt.{NumberAt}
use Rattle.smq_route.specs.Numbers.{number_at, number_cmp}

-- entries of numbers as a finite set
abbrev pub numbers_in : List (NumberAt × Unit {0}) → FinSet number_cmp
numbers_in es = from_entries es

pub numbers_total : IsTotalOrder number_cmp
numbers_total = then_total (on_total (λ k. k.number) nat_list_cmp_total) (on_total (λ k. k.place) places_total)

pub numbers_exact : IsAntisymmetric number_cmp
numbers_exact x y h =
    let numbers : Ordering = octets_cmp x.number y.number in
    let places : Ordering = place_cmp x.place y.place in
    ap (number_at x.number) (places_exact x.place y.place (then_second numbers places h))
    ∙ ap (λ (n : List ℕ). number_at n y.place) (slice_cmp-IsAntisymmetric nat_cmp-IsAntisymmetric x.number y.number (then_first numbers places h))
