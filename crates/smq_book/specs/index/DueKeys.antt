-- Links and moments at places as a shelf keeps them: those that compare equal are one.
use Rattle.std.specs.Prelude.{◌≡◌, ℕ}
use Rattle.std.proofs.Common.{ap, ◌∙◌}
use Rattle.std.specs.Ordering.{nat_cmp, ordering_then}
use Rattle.std.specs.declared.cmp.Ordering.{Ordering}
use Rattle.std.specs.declared.cmp.Ordering.TheVariants.{Equal}
use Rattle.std.specs.FinMap.{nat_cmp-IsAntisymmetric}
use Rattle.smq_kit.specs.Orders.{kept_place_cmp}
use Rattle.smq_kit.proofs.Comparisons.{then_first, then_second}
use Rattle.smq_shelf.specs.within.KeyLaws.{one_place}
use Rattle.smq_book.specs.declared.index.due_at.DueAt.{DueAt}
use Rattle.smq_book.specs.contracts.index.due_at.DueAtOrd.TheImpl as due_ord
use Rattle.smq_book.specs.index.Due.{due_at}

-- the order by which a shelf compares links and moments at places
abbrev pub kept_due_cmp : DueAt → DueAt → Ordering
kept_due_cmp = (due_ord.ghosts).cmp

pub one_due : (x y : DueAt) → kept_due_cmp x y ≡ Equal → x ≡ y
one_due x y h =
    let links : Ordering = nat_cmp x.link.0 y.link.0 in
    let moments : Ordering = nat_cmp x.moment y.moment in
    let places : Ordering = kept_place_cmp x.place y.place in
    let rest = then_second links (ordering_then moments places) h in
    ap (due_at x.link x.moment) (one_place x.place y.place (then_second moments places rest))
    ∙ ap (λ (n : ℕ). due_at x.link n y.place) (nat_cmp-IsAntisymmetric x.moment y.moment (then_first moments places rest))
    ∙ ap (λ (n : ℕ). due_at (record { 0 = n }) y.moment y.place)
    (nat_cmp-IsAntisymmetric x.link.0 y.link.0 (then_first links (ordering_then moments places) h))
