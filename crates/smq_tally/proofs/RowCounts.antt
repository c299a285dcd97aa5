-- What counts in rows have at a key: what its row has under its outcome.
use Rattle.std.proofs.Common.{◌≡◌, ℕ, Bool, true, false, cond, ◌||◌, List, [], ◌∷◌, ◌++◌, Option, Some, None, subst, refl, sym, ap, ◌∙◌, rules}
use Rattle.std.specs.Prelude.{T, ◌&&◌, map, option_to_list}
use Rattle.std.specs.List.{list_any}
use Rattle.std.specs.declared.cmp.Ordering.{Ordering}
use Rattle.std.specs.declared.cmp.Ordering.TheVariants.{Less, Equal, Greater}
use Rattle.std.specs.Ordering.{nat_cmp, ordering_then, is_eq, eq_by_cmp}
use Rattle.std.specs.FinMap.{entries, entries_sorted, find, get, get-entries, get-from_entries, is_sorted}
use Rattle.std.specs.FinMap.Entries.{below_all}
use Rattle.smq_kit.specs.Maps.{positive}
use Rattle.smq_kit.proofs.Comparisons.{is_equal, is_less, first_test, second_test}
use Rattle.smq_kit.proofs.MapLemmas as maps
use Rattle.smq_tally.specs.declared.fact.CountKey.{CountKey}
use Rattle.smq_tally.specs.declared.fact.RowKey.{RowKey}
use Rattle.smq_tally.specs.declared.outcome.Outcome.{Outcome}
use Rattle.smq_tally.specs.declared.counts.OutcomeCounts.{OutcomeCounts}
use Rattle.smq_tally.specs.Rows.{count_key, count_cmp, outcome_rank, same_count_key, value_cmp, view_rank}
use Rattle.smq_tally.specs.within.Counting.{count_in}
use Rattle.smq_tally.specs.within.CountOrder.{count_keys_total, rows_total}
use Rattle.smq_tally.specs.within.Kept.{counts_in}
use Rattle.smq_tally.specs.within.RowCounts.{outcomes, no_counts, count_under, counts_or_none, row_of, row_cmp, Rows, numbers_under, counts_under, counts_among, counts_of, rows_in}
use Rattle.smq_tally.proofs.CountOrders.{same_outcome, rows_exact}
use Rattle.smq_tally.proofs.Tallies.{Has, has-count, has-same}

-- an entry of a map of rows
abbrev pub Row : Type 0
Row = RowKey × OutcomeCounts

-- whether two rows are one, and whether two outcomes are
abbrev pub is_row : RowKey → RowKey → Bool
is_row a b = eq_by_cmp row_cmp a b

abbrev pub is_outcome : Outcome → Outcome → Bool
is_outcome a b = is_eq (nat_cmp (outcome_rank a) (outcome_rank b))

pub one_outcome : (a b : Outcome) → is_outcome a b ≡ true → a ≡ b
one_outcome a b e = same_outcome a b (is_equal _ e)

-- ---- keys by row and outcome

then-assoc : (a b c : Ordering) → ordering_then a (ordering_then b c) ≡ ordering_then (ordering_then a b) c
then-assoc Less b c = refl
then-assoc Equal b c = refl
then-assoc Greater b c = refl

-- keys are compared by row, then by outcome
pub count_cmp-row : (q k : CountKey) → count_cmp q k ≡ ordering_then (row_cmp (row_of q) (row_of k)) (nat_cmp (outcome_rank q.outcome) (outcome_rank k.outcome))
count_cmp-row q k =
    then-assoc (nat_cmp (view_rank q.view) (view_rank k.view)) (value_cmp q.value k.value) (nat_cmp (outcome_rank q.outcome) (outcome_rank k.outcome))

is_eq-then : (a b : Ordering) → is_eq (ordering_then a b) ≡ (is_eq a && is_eq b)
is_eq-then Less b = refl
is_eq-then Equal b = refl
is_eq-then Greater b = refl

-- a key is one of a row where its row is and its outcome is
pub same_key-row : (q k : CountKey) → same_count_key q k ≡ (is_row (row_of q) (row_of k) && is_outcome q.outcome k.outcome)
same_key-row q k = ap is_eq (count_cmp-row q k) ∙ is_eq-then (row_cmp (row_of q) (row_of k)) (nat_cmp (outcome_rank q.outcome) (outcome_rank k.outcome))

-- ---- what is found among the counts of a row

abbrev pub key_at : RowKey → Outcome → CountKey
key_at row outcome = count_key row.view row.value outcome

-- the counts of a row, of which the first outcome has these
abbrev pub begun_with : Row → Outcome → Option ℕ → List Outcome → List (CountKey × ℕ)
begun_with e o n os = map (λ x. (key_at e.0 x.0, x.1)) (map (λ m. (o, m)) (option_to_list n) ++ numbers_under e.1 os)

all_outcomes : (o : Outcome) → list_any (is_outcome o) outcomes ≡ true
all_outcomes o = search rules

module _ (q : CountKey) (e : Row) (rest : List (CountKey × ℕ)) where
  -- nothing, if it is of another row
  find-other : (os : List Outcome) → is_row (row_of q) e.0 ≡ false → find count_cmp q (counts_under e os ++ rest) ≡ find count_cmp q rest
  find-other [] other = refl
  find-other (o ∷ os) other =
      let ih = find-other os other in
      let apart : same_count_key q (key_at e.0 o) ≡ false = same_key-row q (key_at e.0 o) ∙ ap (λ b. b && is_outcome q.outcome o) other in
      elim (positive (count_under e.1 o)) as (λ n. find count_cmp q (begun_with e o n os ++ rest) ≡ find count_cmp q rest) [
        | None ↦ ih
        | Some n ↦ ap (λ b. cond b (Some n) (find count_cmp q (counts_under e os ++ rest))) apart ∙ ih
      ]

  -- what stands under its outcome, if it is of this row and of none after it
  find-under : (os : List Outcome) → is_row (row_of q) e.0 ≡ true → find count_cmp q rest ≡ None
      → find count_cmp q (counts_under e os ++ rest) ≡ cond (list_any (is_outcome q.outcome) os) (positive (count_under e.1 q.outcome)) None
  find-under [] one none = none
  find-under (o ∷ os) one none =
      let ih = find-under os one none in
      let here : same_count_key q (key_at e.0 o) ≡ is_outcome q.outcome o = same_key-row q (key_at e.0 o)
      ∙ ap (λ b. b && is_outcome q.outcome o) one in
      elim (positive (count_under e.1 o)) as (λ n. positive (count_under e.1 o) ≡ n → find count_cmp q (begun_with e o n os ++ rest)
      ≡ cond (is_outcome q.outcome o || list_any (is_outcome q.outcome) os) (positive (count_under e.1 q.outcome)) None) [
        | None ↦ λ e0. ih ∙ no_more (is_outcome q.outcome o) refl (list_any (is_outcome q.outcome) os) e0
        | Some n ↦ λ e1. ap (λ b. cond b (Some n) (find count_cmp q (counts_under e os ++ rest))) here
            ∙ (λ i. cond (is_outcome q.outcome o) (Some n) (ih i))
            ∙ there (is_outcome q.outcome o) refl n (list_any (is_outcome q.outcome) os) e1
      ] refl
    where
      no_more : (b : Bool) → is_outcome q.outcome o ≡ b → (c : Bool) → positive (count_under e.1 o) ≡ None
          → cond c (positive (count_under e.1 q.outcome)) None ≡ cond (b || c) (positive (count_under e.1 q.outcome)) None
      no_more false t c e0 = refl
      no_more true t true e0 = refl
      no_more true t false e0 = sym (ap (λ x. positive (count_under e.1 x)) (one_outcome q.outcome o t) ∙ e0)

      there : (b : Bool) → is_outcome q.outcome o ≡ b → (n : ℕ) (c : Bool) → positive (count_under e.1 o) ≡ Some n
          → cond b (Some n) (cond c (positive (count_under e.1 q.outcome)) None) ≡ cond (b || c) (positive (count_under e.1 q.outcome)) None
      there false t n c e1 = refl
      there true t n c e1 = sym (ap (λ x. positive (count_under e.1 x)) (one_outcome q.outcome o t) ∙ e1)

-- ---- what is found among the counts of rows

pub under-none : (o : Outcome) → count_under no_counts o ≡ 0
under-none o = search rules

row-below : (r : RowKey) (es : List Row) → T (below_all row_cmp r es) → find row_cmp r es ≡ None
row-below r [] h = refl
row-below r (e ∷ es) h =
    ap (λ x. cond (is_eq x) (Some e.1) (find row_cmp r es)) (is_less (row_cmp r e.0) (first_test _ _ h)) ∙ row-below r es (second_test _ _ h)

-- the number of a key in a row, or in none
abbrev pub number_of_row : CountKey → Option OutcomeCounts → ℕ
number_of_row q row = count_under (counts_or_none row) q.outcome

no_row : (q : CountKey) → positive (number_of_row q None) ≡ None
no_row q = ap positive (under-none q.outcome)

find-rows : (q : CountKey) (es : List Row) → T (is_sorted row_cmp es) → find count_cmp q (counts_among es) ≡ positive (number_of_row q (find row_cmp (row_of q) es))
find-rows q [] h = sym (no_row q)
find-rows q (e ∷ es) h =
    let ih = find-rows q es (second_test _ _ h) in
    elim (is_row (row_of q) e.0) as (λ b. is_row (row_of q) e.0 ≡ b → find count_cmp q (counts_under e outcomes ++ counts_among es)
    ≡ positive (number_of_row q (cond b (Some e.1) (find row_cmp (row_of q) es)))) [
      | true ↦ λ t.
          let same : row_of q ≡ e.0 = maps.same_key rows_total rows_exact (row_of q) e.0 t in
          let none : find row_cmp (row_of q) es ≡ None =
          row-below (row_of q) es (subst (λ (r : RowKey). T (below_all row_cmp r es)) (sym same) (first_test _ _ h)) in
          find-under q e (counts_among es) outcomes t (ih ∙ ap (λ (x : Option OutcomeCounts). positive (number_of_row q x)) none ∙ no_row q)
          ∙ ap (λ b. cond b (positive (count_under e.1 q.outcome)) None) (all_outcomes q.outcome)
      | false ↦ λ f. find-other q e (counts_among es) outcomes f ∙ ih
    ] refl

-- the number of a key in rows
abbrev pub number_in : Rows → CountKey → ℕ
number_in rows q = number_of_row q (get rows (row_of q))

pub has-rows : (rows : Rows) → Has (counts_of rows) (number_in rows)
has-rows rows = record {
  at = λ q. get-from_entries count_keys_total (counts_among (entries rows)) q ∙ find-rows q (entries rows) (entries_sorted rows)
      ∙ ap (λ (x : Option OutcomeCounts). positive (number_of_row q x)) (sym (get-entries rows (row_of q)));
}

pub count-rows : (rows : Rows) (q : CountKey) → count_in (counts_of rows) q ≡ number_in rows q
count-rows rows q = has-count (counts_of rows) (number_in rows) (has-rows rows) q

-- counts in rows have what they count, where it isn't 0
pub has-counts : (es : List Row) → Has (counts_in es) (count_in (counts_in es))
has-counts es = has-same (counts_in es) (number_in (rows_in es)) (count_in (counts_in es)) (has-rows (rows_in es)) (λ q. sym (count-rows (rows_in es) q))
