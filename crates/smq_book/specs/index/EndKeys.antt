-- Ends at places as a shelf keeps them: those that compare equal are one.
use Rattle.std.specs.Prelude.{◌≡◌, ℕ}
use Rattle.std.proofs.Common.{ap, ◌∙◌}
use Rattle.std.specs.Ordering.{nat_cmp}
use Rattle.std.specs.declared.cmp.Ordering.{Ordering}
use Rattle.std.specs.declared.cmp.Ordering.TheVariants.{Equal}
use Rattle.std.specs.FinMap.{nat_cmp-IsAntisymmetric}
use Rattle.smq_kit.specs.Orders.{kept_place_cmp}
use Rattle.smq_kit.proofs.Comparisons.{then_first, then_second}
use Rattle.smq_shelf.specs.within.KeyLaws.{one_place}
use Rattle.smq_book.specs.declared.index.end_at.EndAt.{EndAt}
use Rattle.smq_book.specs.contracts.index.end_at.EndAtOrd.TheImpl as end_ord
use Rattle.smq_book.specs.index.Ends.{end_at}

-- the order by which a shelf compares ends at places
abbrev pub kept_end_cmp : EndAt → EndAt → Ordering
kept_end_cmp = (end_ord.ghosts).cmp

pub one_end : (x y : EndAt) → kept_end_cmp x y ≡ Equal → x ≡ y
one_end x y h =
    let ends : Ordering = nat_cmp x.end y.end in
    let places : Ordering = kept_place_cmp x.place y.place in
    ap (end_at x.end) (one_place x.place y.place (then_second ends places h))
    ∙ ap (λ (n : ℕ). end_at n y.place) (nat_cmp-IsAntisymmetric x.end y.end (then_first ends places h))
