-- The rows that a view shows are the counts that stand in it.
use Rattle.std.proofs.Common.{◌≡◌, ℕ, true, Some, refl, sym}
use Rattle.std.specs.Prelude.{◌↔◌, Contains}
use Rattle.std.specs.Cmp.{nat_cmp_is}
use Rattle.std.specs.declared.cmp.Ordering.TheVariants.{Equal}
use Rattle.std.specs.FinMap.{get}
use Rattle.std.proofs.lemmas.Bool.{eq-eqb, eqb-true}
use Rattle.smq_tally.specs.declared.fact.CountKey.{CountKey}
use Rattle.smq_tally.specs.declared.outcome.Outcome.{Outcome}
use Rattle.smq_tally.specs.declared.value.Value.{Value}
use Rattle.smq_tally.specs.declared.view.View.{View}
use Rattle.smq_tally.specs.Rows.{view_rank, count_cmp, count_key}
use Rattle.smq_tally.specs.Tables.{TablesValue, ShownRow, in_view, shown_row, rows_of}
use Rattle.smq_tally.specs.within.CountOrder.{count_keys_total}
use Rattle.smq_tally.proofs.CountOrders.{count_keys_exact, same_view}
use Rattle.smq_tally.proofs.Parts.{part-iff}

-- the count of a shown row
abbrev count_shown : View → ShownRow → CountKey × ℕ
count_shown view row = (count_key view row.0 row.1, row.2)

-- a count in a view is that of the row that shows it
key-shown : (view : View) (e : CountKey × ℕ) → in_view view e ≡ true → count_shown view (shown_row e) ≡ e
key-shown view e h =
    λ i. (count_key (same_view view e.0.view (sym (nat_cmp_is _ _ Equal (sym (eqb-true _ _ h)))) i) e.0.value e.0.outcome, e.1)

-- a view shows a row exactly where its count stands in the tables
pub shown-iff : (t : TablesValue) (view : View) (value : Value) (outcome : Outcome) (n : ℕ)
    → Contains (rows_of t view) (value, outcome, n) ↔ (get t.counts (count_key view value outcome) ≡ Some n)
shown-iff t view value outcome n =
    part-iff count_cmp (in_view view) shown_row count_keys_total count_keys_exact (count_shown view) (key-shown view) t.counts
    (count_key view value outcome) n (eq-eqb (view_rank view) (view_rank view) refl)
