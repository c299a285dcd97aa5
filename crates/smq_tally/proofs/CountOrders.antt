-- The derived order of the keys of counts is that of the definitions, and the rows of a view stand in it.
use Rattle.std.proofs.Common.{◌≡◌, ℕ, List, refl, sym, ap, ◌∙◌, rules}
use Rattle.std.specs.List.Sorted.{IsStrictlySortedBy}
use Rattle.std.specs.declared.cmp.Ordering.TheVariants.{Equal}
use Rattle.std.specs.Ordering.{nat_cmp, ordering_then, is_eq}
use Rattle.std.specs.Cmp.Lexicographic.{slice_cmp}
use Rattle.std.specs.Map.{keys_of}
use Rattle.std.proofs.lemmas.Bool.Decides.{Decides-and}
use Rattle.std.specs.FinMap.{IsAntisymmetric, entries}
use Rattle.smq_kit.proofs.ErrorOrders.{error-order as code-order}
use Rattle.smq_tally.specs.declared.band.Band.{Band}
use Rattle.smq_tally.specs.declared.outcome.Outcome.{Outcome}
use Rattle.smq_tally.specs.declared.fact.RowKey.{RowKey}
use Rattle.smq_tally.specs.declared.counts.OutcomeCounts.{OutcomeCounts}
use Rattle.smq_tally.specs.declared.view.View.{View}
use Rattle.smq_tally.specs.declared.value.SubmitError.{SubmitError}
use Rattle.smq_tally.specs.declared.value.SubmitError.TheVariants as s
use Rattle.smq_tally.specs.declared.value.Value.{Value}
use Rattle.smq_tally.specs.contracts.band.BandOrd.TheImpl as band_ord
use Rattle.smq_tally.specs.contracts.fact.CountKeyOrd.TheImpl.Laws as key_laws
use Rattle.smq_tally.specs.contracts.outcome.OutcomeOrd.TheImpl as outcome_ord
use Rattle.smq_tally.specs.contracts.outcome.OutcomeOrd.TheImpl.Laws as outcome_laws
use Rattle.smq_tally.specs.contracts.view.ViewOrd.TheImpl as view_ord
use Rattle.smq_tally.specs.contracts.view.ViewOrd.TheImpl.Laws as view_laws
use Rattle.smq_tally.specs.contracts.value.SubmitErrorOrd.TheImpl as error_ord
use Rattle.smq_tally.specs.Bands.{band_rank}
use Rattle.smq_tally.specs.Rows.{count_cmp, value_cmp, submit_error_numbers, outcome_rank, view_rank}
use Rattle.smq_tally.specs.Tables.{TablesValue, in_view, shown_row, shown_cmp, rows_of}
use Rattle.smq_kit.proofs.Ordered as ordered
use Rattle.smq_kit.proofs.Comparisons.{then_equal}
use Rattle.smq_tally.specs.within.CountOrder.{kept_cmp, kept_row_cmp, kept_value_cmp, rows_total}
use Rattle.smq_tally.specs.within.Keys.{outcomes, values, views, row_key_exact}
use Rattle.smq_tally.specs.within.RowCounts.{row_cmp, rows_in}
use Rattle.smq_tally.proofs.Parts.{part-sorted, then_next}

-- ---- the derived orders are those of the definitions

outcome-order : (a b : Outcome) → (outcome_ord.ghosts).cmp a b ≡ nat_cmp (outcome_rank a) (outcome_rank b)
outcome-order a b = search rules

view-order : (a b : View) → (view_ord.ghosts).cmp a b ≡ nat_cmp (view_rank a) (view_rank b)
view-order a b = search rules

band-order : (a b : Band) → (band_ord.ghosts).cmp a b ≡ nat_cmp (band_rank a) (band_rank b)
band-order a b = search rules

error-order : (x y : SubmitError) → (error_ord.ghosts).cmp x y ≡ slice_cmp nat_cmp (submit_error_numbers x) (submit_error_numbers y)
error-order (s.Refused a) (s.Refused b) = sym (then_equal (nat_cmp a b))
error-order (s.Refused a) (s.Failed y) = refl
error-order (s.Failed x) (s.Refused b) = refl
error-order (s.Failed x) (s.Failed y) = code-order x y

then_tied : (m n : ℕ) → nat_cmp m n ≡ ordering_then (nat_cmp m n) Equal
then_tied m n = sym (then_equal (nat_cmp m n))

band_tied : (a b : Band) → (band_ord.ghosts).cmp a b ≡ ordering_then (nat_cmp (band_rank a) (band_rank b)) Equal
band_tied a b = band-order a b ∙ then_tied (band_rank a) (band_rank b)

pub value-order : (a b : Value) → kept_value_cmp a b ≡ value_cmp a b
value-order a b = search (rules, then_tied, error-order, band_tied)

pub count_key-order : kept_cmp ≡ count_cmp
count_key-order = λ i a b. ordering_then (view-order a.view b.view i)
    (ordering_then (value-order a.value b.value i) (outcome-order a.outcome b.outcome i))

pub row_key-order : kept_row_cmp ≡ row_cmp
row_key-order = λ i a b. ordering_then (view-order a.view b.view i) (value-order a.value b.value i)

-- ---- what compares equal is one

pub same_outcome : (a b : Outcome) → nat_cmp (outcome_rank a) (outcome_rank b) ≡ Equal → a ≡ b
same_outcome a b e = (outcomes a b).0 (outcome_laws.matches_eq-law a b ∙ ap is_eq (outcome-order a b ∙ e))

pub same_view : (a b : View) → nat_cmp (view_rank a) (view_rank b) ≡ Equal → a ≡ b
same_view a b e = (views a b).0 (view_laws.matches_eq-law a b ∙ ap is_eq (view-order a b ∙ e))

pub count_keys_exact : IsAntisymmetric count_cmp
count_keys_exact a b e =
    let parts = (Decides-and _ _ (views a.view b.view) (Decides-and _ _ (values a.value b.value) (outcomes a.outcome b.outcome))).0
    (key_laws.matches_eq-law a b ∙ (λ i. is_eq (count_key-order i a b)) ∙ ap is_eq e) in
    λ i. record { view = parts.0 i; value = parts.1.0 i; outcome = parts.1.1 i }

pub rows_exact : IsAntisymmetric row_cmp
rows_exact a b e = row_key_exact a b ((λ i. row_key-order i a b) ∙ e)

-- ---- rows that stand in order

-- they are those of the finite map that they make
pub rows-kept : (es : List (RowKey × OutcomeCounts)) → IsStrictlySortedBy kept_row_cmp (keys_of es) → entries (rows_in es) ≡ es
rows-kept es s = ordered.entries-kept rows_total rows_exact row_key-order es s

-- those of a view stand strictly in order of value, then outcome
pub rows-sorted : (t : TablesValue) (view : View) → IsStrictlySortedBy shown_cmp (rows_of t view)
rows-sorted t view =
    part-sorted count_cmp (in_view view) shown_row shown_cmp
    (λ d e. then_next (view_rank d.0.view) (view_rank e.0.view) (view_rank view) (shown_cmp (shown_row d) (shown_row e))) t.counts
