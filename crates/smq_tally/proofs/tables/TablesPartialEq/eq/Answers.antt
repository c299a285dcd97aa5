use Rattle.std.proofs.Common.{refl, sym, ap, ◌∙◌}
use Rattle.std.specs.Prelude.{◌&&◌}
use Rattle.std.specs.Cmp.Lexicographic.{pointwise}
use Rattle.std.specs.FinMap.{keys}
use Rattle.smq_tally.specs.within.Kept.{places_in}
use Rattle.smq_tally.specs.within.ListOrder.{same_listed}
use Rattle.smq_tally.proofs.Equals.{counts-told, places-told}
use Rattle.smq_tally.proofs.tables.TablesPartialEq.eq.Goals as goal

pub returns-then-have_same_rows : goal.returns-then-have_same_rows
returns-then-have_same_rows c =
    places-told c.have_same_entries.result c.iter.result c.iter-then-have_same_rows.result c.have_same_entries.ensures (λ u v. refl)
    c.iter.ensures.ordered c.iter-then-have_same_rows.ensures.ordered
    ∙ (λ i. pointwise same_listed (keys (places_in (c.iter.ensures.entries i)))
    (keys (places_in (c.iter-then-have_same_rows.ensures.entries i))))
    ∙ (λ i. pointwise same_listed (keys (c.self.view_is i).shown.places) (keys (c.other.view_is i).shown.places))
    ∙ ap (λ b. b && pointwise same_listed (keys c.args.self.now.shown.places) (keys c.args.other.now.shown.places))
    (sym c.if-have_same_rows.true ∙ counts-told _ c.args.self.now.shown c.args.other.now.shown c.have_same_rows.ensures)

pub returns-else-have_same_rows : goal.returns-else-have_same_rows
returns-else-have_same_rows c =
    c.if-have_same_rows.false
    ∙ ap (λ b. b && pointwise same_listed (keys c.args.self.now.shown.places) (keys c.args.other.now.shown.places))
    (sym c.if-have_same_rows.false ∙ counts-told _ c.args.self.now.shown c.args.other.now.shown c.have_same_rows.ensures)
