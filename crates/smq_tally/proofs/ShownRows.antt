-- Counts in rows stand in order, row by row, and so do those of a view as they are shown.
use Rattle.std.proofs.Common.{◌≡◌, ℕ, Bool, true, false, cond, List, [], ◌∷◌, ◌++◌, Option, Some, None, refl, sym, ap, ◌∙◌, rules}
use Rattle.std.specs.Prelude.{T, ◌==◌, map, filter, option_to_list}
use Rattle.std.specs.List.{AllByRecursion}
use Rattle.std.specs.Cmp.{tied_itself}
use Rattle.std.specs.declared.cmp.Ordering.{Ordering}
use Rattle.std.specs.declared.cmp.Ordering.TheVariants.{Less}
use Rattle.std.specs.Ordering.{nat_cmp, ordering_then, is_lt}
use Rattle.std.specs.FinMap.{entries, entries_sorted, is_sorted}
use Rattle.std.specs.FinMap.Entries.{below_all}
use Rattle.smq_kit.specs.Maps.{positive}
use Rattle.smq_kit.proofs.Comparisons.{is_less, first_test, second_test, both_tests}
use Rattle.smq_kit.proofs.MapLemmas as maps
use Rattle.smq_tally.specs.declared.fact.CountKey.{CountKey}
use Rattle.smq_tally.specs.declared.outcome.Outcome.{Outcome}
use Rattle.smq_tally.specs.declared.view.View.{View}
use Rattle.smq_tally.specs.Rows.{count_cmp, outcome_rank, view_rank}
use Rattle.smq_tally.specs.Tables.{ShownRow, in_view, shown_row}
use Rattle.smq_tally.specs.within.CountOrder.{count_keys_total, rows_total}
use Rattle.smq_tally.specs.within.RowCounts.{outcomes, count_under, row_of, row_cmp, Rows, counts_under, counts_among, counts_of, numbers_under, shown_under, shown_among}
use Rattle.smq_tally.proofs.CountOrders.{count_keys_exact}
use Rattle.smq_tally.proofs.RowCounts.{Row, count_cmp-row, key_at, begun_with}

less_test : (o : Ordering) → o ≡ Less → T (is_lt o)
less_test o e = rw e tt

-- ---- in order

-- a key that is below a row is below its counts
below-row : (q : CountKey) (e : Row) (os : List Outcome) (rest : List (CountKey × ℕ)) → row_cmp (row_of q) e.0 ≡ Less
    → T (below_all count_cmp q rest) → T (below_all count_cmp q (counts_under e os ++ rest))
below-row q e [] rest less h = h
below-row q e (o ∷ os) rest less h =
    let ih = below-row q e os rest less h in
    let here : count_cmp q (key_at e.0 o) ≡ Less = count_cmp-row q (key_at e.0 o)
    ∙ ap (λ r. ordering_then r (nat_cmp (outcome_rank q.outcome) (outcome_rank o))) less in
    elim (positive (count_under e.1 o)) as (λ n. T (below_all count_cmp q (begun_with e o n os ++ rest))) [
      | None ↦ ih
      | Some n ↦ both_tests _ _ (less_test (count_cmp q (key_at e.0 o)) here) ih
    ]

below-rows : (q : CountKey) (es : List Row) → T (below_all row_cmp (row_of q) es) → T (below_all count_cmp q (counts_among es))
below-rows q [] h = tt
below-rows q (e ∷ es) h = below-row q e outcomes (counts_among es) (is_less _ (first_test _ _ h)) (below-rows q es (second_test _ _ h))

-- these outcomes come after one
abbrev After : Outcome → List Outcome → Type 0
After o os = AllByRecursion (λ p. nat_cmp (outcome_rank o) (outcome_rank p) ≡ Less) os

-- a key of a row is below the counts of the row that have outcomes after its own
below-outcome : (e : Row) (o : Outcome) (os : List Outcome) (rest : List (CountKey × ℕ)) → After o os → T (below_all count_cmp (key_at e.0 o) rest)
    → T (below_all count_cmp (key_at e.0 o) (counts_under e os ++ rest))
below-outcome e o [] rest a h = h
below-outcome e o (p ∷ os) rest a h =
    let ih = below-outcome e o os rest a.1 h in
    let here : count_cmp (key_at e.0 o) (key_at e.0 p) ≡ Less = count_cmp-row (key_at e.0 o) (key_at e.0 p)
    ∙ ap (λ r. ordering_then r (nat_cmp (outcome_rank o) (outcome_rank p))) (tied_itself rows_total e.0) ∙ a.0 in
    elim (positive (count_under e.1 p)) as (λ n. T (below_all count_cmp (key_at e.0 o) (begun_with e p n os ++ rest))) [
      | None ↦ ih
      | Some n ↦ both_tests _ _ (less_test (count_cmp (key_at e.0 o) (key_at e.0 p)) here) ih
    ]

abbrev Rise : List Outcome → Type 0
Rise [] = Unit {0}
Rise (o ∷ os) = After o os × Rise os

-- the counts of a row stand in order, before what is above them
sorted-row : (e : Row) (os : List Outcome) (rest : List (CountKey × ℕ)) → Rise os → ((o : Outcome) → T (below_all count_cmp (key_at e.0 o) rest))
    → T (is_sorted count_cmp rest) → T (is_sorted count_cmp (counts_under e os ++ rest))
sorted-row e [] rest rise below h = h
sorted-row e (o ∷ os) rest rise below h =
    let ih = sorted-row e os rest rise.1 below h in
    elim (positive (count_under e.1 o)) as (λ n. T (is_sorted count_cmp (begun_with e o n os ++ rest))) [
      | None ↦ ih
      | Some n ↦ both_tests _ _ (below-outcome e o os rest rise.0 (below o)) ih
    ]

outcomes_rise : Rise outcomes
outcomes_rise = search rules

sorted-rows : (es : List Row) → T (is_sorted row_cmp es) → T (is_sorted count_cmp (counts_among es))
sorted-rows [] h = tt
sorted-rows (e ∷ es) h =
    sorted-row e outcomes (counts_among es) outcomes_rise (λ o. below-rows (key_at e.0 o) es (first_test _ _ h)) (sorted-rows es (second_test _ _ h))

-- the counts in rows, in order, are those of one row after the other
pub entries-rows : (m : Rows) → entries (counts_of m) ≡ counts_among (entries m)
entries-rows m = maps.entries-from_entries count_keys_total count_keys_exact (counts_among (entries m)) (sorted-rows (entries m) (entries_sorted m))

-- ---- as they are shown

-- whether a row is of a view
abbrev pub row_in_view : View → Row → Bool
row_in_view view e = view_rank e.0.view == view_rank view

shown-row : (view : View) (e : Row) (os : List Outcome) (rest : List (CountKey × ℕ)) (b : Bool) → row_in_view view e ≡ b
    → map shown_row (filter (in_view view) (counts_under e os ++ rest))
    ≡ cond b (shown_under e os ++ map shown_row (filter (in_view view) rest)) (map shown_row (filter (in_view view) rest))
shown-row view e [] rest true h = refl
shown-row view e [] rest false h = refl
shown-row view e (o ∷ os) rest b h =
    let ih = shown-row view e os rest b h in
    elim (positive (count_under e.1 o)) as (λ n. map shown_row (filter (in_view view) (begun_with e o n os ++ rest))
    ≡ cond b (shown_with e o n os ++ map shown_row (filter (in_view view) rest)) (map shown_row (filter (in_view view) rest))) [
      | None ↦ ih
      | Some n ↦ ap (λ c. map shown_row (cond c ((key_at e.0 o, n) ∷ filter (in_view view) (counts_under e os ++ rest))
          (filter (in_view view) (counts_under e os ++ rest)))) h ∙ by_view n b ih
    ]
  where
    shown_with : Row → Outcome → Option ℕ → List Outcome → List ShownRow
    shown_with e o n os = map (λ x. (e.0.value, x.0, x.1)) (map (λ m. (o, m)) (option_to_list n) ++ numbers_under e.1 os)

    by_view : (n : ℕ) (b : Bool) → map shown_row (filter (in_view view) (counts_under e os ++ rest))
        ≡ cond b (shown_under e os ++ map shown_row (filter (in_view view) rest)) (map shown_row (filter (in_view view) rest))
        → map shown_row (cond b ((key_at e.0 o, n) ∷ filter (in_view view) (counts_under e os ++ rest)) (filter (in_view view) (counts_under e os ++ rest)))
        ≡ cond b (shown_with e o (Some n) os ++ map shown_row (filter (in_view view) rest)) (map shown_row (filter (in_view view) rest))
    by_view n true ih = ap (λ (rows : List ShownRow). (e.0.value, o, n) ∷ rows) ih
    by_view n false ih = ih

shown-rows : (view : View) (es : List Row) → shown_among (filter (row_in_view view) es) ≡ map shown_row (filter (in_view view) (counts_among es))
shown-rows view [] = refl
shown-rows view (e ∷ es) =
    elim (row_in_view view e) as (λ b. row_in_view view e ≡ b → shown_among (cond b (e ∷ filter (row_in_view view) es) (filter (row_in_view view) es))
    ≡ map shown_row (filter (in_view view) (counts_under e outcomes ++ counts_among es))) [
      | true ↦ λ h. ap (λ (rows : List ShownRow). shown_under e outcomes ++ rows) (shown-rows view es)
          ∙ sym (shown-row view e outcomes (counts_among es) true h)
      | false ↦ λ h. shown-rows view es ∙ sym (shown-row view e outcomes (counts_among es) false h)
    ] refl

-- the rows of a view are shown as its counts
pub rows-shown : (m : Rows) (view : View) → shown_among (filter (row_in_view view) (entries m)) ≡ map shown_row (filter (in_view view) (entries (counts_of m)))
rows-shown m view = shown-rows view (entries m) ∙ ap (λ es. map shown_row (filter (in_view view) es)) (sym (entries-rows m))
