-- The views in turn, and that the rows of a view are a run of the code's map.
use Rattle.std.proofs.Common.{◌≡◌, ℕ, true, List, refl, sym, ap, ◌∙◌, rules}
use Rattle.std.specs.Prelude.{map, filter}
use Rattle.std.specs.List.Sorted.{IsStrictlySortedBy}
use Rattle.std.specs.declared.cmp.Ordering.TheVariants.{Equal}
use Rattle.std.specs.Ordering.{nat_cmp, is_le}
use Rattle.std.specs.Map.{keys_of}
use Rattle.std.specs.FinMap.{FinMap, entries}
use Rattle.smq_tally.specs.declared.value.Value.{Value}
use Rattle.smq_kit.proofs.Comparisons.{le_zero, then_le, then_least}
use Rattle.smq_tally.specs.declared.value.Value.TheVariants as w
use Rattle.smq_tally.specs.declared.view.View.{View}
use Rattle.smq_tally.specs.Rows.{views, view_rank, value_cmp, count_cmp}
use Rattle.smq_tally.specs.Tables.{TablesValue, in_view, shown_row, rows_of}
use Rattle.smq_tally.specs.within.CountOrder.{kept_row_cmp, first_value, first_row}
use Rattle.smq_tally.specs.within.Kept.{counts_in}
use Rattle.smq_tally.specs.within.RowCounts.{rows_in, shown_among}
use Rattle.smq_tally.proofs.CountOrders.{row_key-order, rows-kept}
use Rattle.smq_tally.proofs.RowCounts.{Row}
use Rattle.smq_tally.proofs.Runs.{Parted}
use Rattle.smq_tally.proofs.ShownRows.{row_in_view, rows-shown}

-- no value is before the first
first_le : (a : Value) → is_le (value_cmp first_value a) ≡ true
first_le (w.Link link) = then_le (nat_cmp 0 link.0) Equal (le_zero link.0) refl
first_le _ = refl

pub view_parts : Parted kept_row_cmp views view_rank (λ q. q.view) first_row
view_parts = record {
  counted = search rules;
  placed = λ view. search rules;
  begins = λ view q. (λ i. is_le (row_key-order i (first_row view) q))
      ∙ then_least (nat_cmp (view_rank view) (view_rank q.view)) (value_cmp first_value q.value) (first_le q.value);
  own = λ view. refl;
}

-- the code's rows of a view are those of the tables
pub view-whole : (t : TablesValue) (view : View) (es : List Row) → counts_in es ≡ t.counts → IsStrictlySortedBy kept_row_cmp (keys_of es)
    → shown_among (filter (row_in_view view) es) ≡ rows_of t view
view-whole t view es is sorted =
    (λ i. shown_among (filter (row_in_view view) (sym (rows-kept es sorted) i)))
    ∙ rows-shown (rows_in es) view
    ∙ ap (λ (m : FinMap count_cmp ℕ). map shown_row (filter (in_view view) (entries m))) is
