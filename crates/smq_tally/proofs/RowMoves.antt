-- A change of a row moves counts of its keys alone.
use Rattle.std.proofs.Common.{◌≡◌, ℕ, ◌+◌, ◌-◌, ◌<◌, ◌≤◌, ◌^◌, Bool, true, false, cond, List, Option, Some, None, refl, sym, ap, ◌∙◌, arith, rules}
use Rattle.std.specs.Prelude.{◌&&◌, min, option_map, option_to_list, unwrap_or}
use Rattle.std.specs.Bool.{Decides}
use Rattle.std.specs.BTreeMap.{is_at}
use Rattle.std.specs.List.Sorted.{IsStrictlySortedBy}
use Rattle.std.specs.Map.{keys_of, lookup}
use Rattle.std.specs.FinMap.{get}
use Rattle.std.proofs.Math.Nat.{min-eq_left}
use Rattle.smq_kit.specs.Maps.{set_at}
use Rattle.smq_kit.proofs.MapLemmas as maps
use Rattle.smq_shelf.specs.Values.{with_value}
use Rattle.smq_shelf.proofs.Seen as seen
use Rattle.smq_tally.specs.declared.counts.Delta.TheVariants as s
use Rattle.smq_tally.specs.declared.fact.CountKey.{CountKey}
use Rattle.smq_tally.specs.declared.fact.RowKey.{RowKey}
use Rattle.smq_tally.specs.declared.outcome.Outcome.{Outcome}
use Rattle.smq_tally.specs.declared.counts.OutcomeCounts.{OutcomeCounts}
use Rattle.smq_tally.specs.declared.fact.Fact.{Fact}
use Rattle.smq_tally.specs.declared.value.Value.{Value}
use Rattle.smq_tally.specs.declared.view.View.{View}
use Rattle.smq_tally.specs.contracts.counts.OutcomeCountsPartialEq.TheImpl as counts_eq
use Rattle.smq_tally.specs.Rows.{same_count_key, count_key, key_in, value_in}
use Rattle.smq_tally.specs.within.Counting.{Counts, count_in, times, AreCounted, HaveRoom, IsMoved}
use Rattle.smq_tally.specs.within.CountOrder.{kept_row_cmp, rows_total}
use Rattle.smq_tally.specs.within.Kept.{counts_in}
use Rattle.smq_tally.specs.within.RowCounts.{no_counts, count_under, with_count_under, row_step, row_step_if, counts_or_none, as_row, row_after, row_of, Rows, rows_in, keys_at, keys_with}
use Rattle.smq_tally.proofs.CountOrders.{rows_exact, row_key-order}
use Rattle.smq_tally.proofs.RowCounts.{Row, is_row, is_outcome, key_at, same_key-row, number_of_row, count-rows, one_outcome}
use Rattle.smq_tally.proofs.Tallies.{count-one}

-- ---- a row of the code's map

-- the row that a look-up gives
pub row-at : (es : List Row) (r : RowKey) → get (rows_in es) r ≡ lookup (is_at (kept_row_cmp r)) es
row-at es r = seen.looked_up rows_total rows_exact row_key-order es r

pub row-found : (es : List Row) (q : CountKey) (r : RowKey) (x : Option OutcomeCounts) → r ≡ row_of q → x ≡ lookup (is_at (kept_row_cmp r)) es
    → number_of_row q x ≡ count_in (counts_in es) q
row-found es q r x same found =
    ap (number_of_row q) (found ∙ sym (row-at es r) ∙ ap (get (rows_in es)) same) ∙ sym (count-rows (rows_in es) q)

-- ---- one outcome more or less in a row

under-with : (c : OutcomeCounts) (o p : Outcome) (n : ℕ) → count_under (with_count_under c o n) p ≡ cond (is_outcome p o) n (count_under c p)
under-with c o p n = search rules

counts_same : (c d : OutcomeCounts) → Decides ((counts_eq.ghosts).eq c d) (c ≡ d)
counts_same c d = search rules

under-row : (more : Option Outcome) (c : OutcomeCounts) (p : Outcome) → count_under (counts_or_none (as_row more c)) p ≡ count_under c p
under-row (Some o) c p = refl
under-row None c p = elim ((counts_eq.ghosts).eq c no_counts) as (λ b. (counts_eq.ghosts).eq c no_counts ≡ b
    → count_under (counts_or_none (cond b None (Some c))) p ≡ count_under c p) [
      | true ↦ λ e. ap (λ (x : OutcomeCounts). count_under x p) (sym ((counts_same c no_counts).0 e))
      | false ↦ λ e. refl
    ] refl

-- how many of one outcome, or of none, are an outcome
abbrev among : Outcome → Option Outcome → ℕ
among p None = 0
among p (Some o) = cond (is_outcome p o) 1 0

less-under : (c : OutcomeCounts) (less : Option Outcome) (p : Outcome) → among p less ≤ count_under c p
    → count_under (row_step_if s.Minus c less) p + among p less ≡ count_under c p
less-under c None p few = omega arith
less-under c (Some o) p few =
    let now = under-with c o p (count_under c o - 1) in
    elim (is_outcome p o) as (λ b. is_outcome p o ≡ b → count_under (row_step s.Minus c o) p ≡ cond b (count_under c o - 1) (count_under c p)
    → cond b 1 0 ≤ count_under c p → count_under (row_step s.Minus c o) p + cond b 1 0 ≡ count_under c p) [
      | true ↦ λ e step least. let same : count_under c p ≡ count_under c o = ap (count_under c) (one_outcome p o e) in omega (arith, step, least, same)
      | false ↦ λ e step least. omega (arith, step)
    ] refl now few

more-under : (c : OutcomeCounts) (more : Option Outcome) (p : Outcome) → (0 < among p more → count_under c p + among p more < 2 ^ 64)
    → count_under (row_step_if s.Plus c more) p ≡ count_under c p + among p more
more-under c None p room = omega arith
more-under c (Some o) p room =
    let now = under-with c o p (min (count_under c o + 1) (2 ^ 64 - 1)) in
    elim (is_outcome p o) as (λ b. is_outcome p o ≡ b
    → count_under (row_step s.Plus c o) p ≡ cond b (min (count_under c o + 1) (2 ^ 64 - 1)) (count_under c p)
    → (0 < cond b 1 0 → count_under c p + cond b 1 0 < 2 ^ 64) → count_under (row_step s.Plus c o) p ≡ count_under c p + cond b 1 0) [
      | true ↦ λ e step most.
          let same : count_under c p ≡ count_under c o = ap (count_under c) (one_outcome p o e) in
          let within : count_under c o + 1 ≤ 2 ^ 64 - 1 = let small = most (omega arith) in omega (arith, same, small) in
          let unbounded : min (count_under c o + 1) (2 ^ 64 - 1) ≡ count_under c o + 1 = min-eq_left within in
          omega (arith, step, same, unbounded)
      | false ↦ λ e step most. omega (arith, step)
    ] refl now room

-- ---- at a key

-- how often a key is one of a row with an outcome, where it is of this row and where it isn't
times-here : (q : CountKey) (row : RowKey) (o : Option Outcome) → is_row (row_of q) row ≡ true → times q (keys_at row o) ≡ among q.outcome o
times-here q row None e = refl
times-here q row (Some o) e =
    count-one (same_count_key q) (key_at row o) ∙ ap (λ b. cond b 1 0) (same_key-row q (key_at row o) ∙ ap (λ b. b && is_outcome q.outcome o) e)

times-there : (q : CountKey) (row : RowKey) (o : Option Outcome) → is_row (row_of q) row ≡ false → times q (keys_at row o) ≡ 0
times-there q row None e = refl
times-there q row (Some o) e =
    count-one (same_count_key q) (key_at row o) ∙ ap (λ b. cond b 1 0) (same_key-row q (key_at row o) ∙ ap (λ b. b && is_outcome q.outcome o) e)

module _ (es fs : List Row) (row : RowKey) (less more : Option Outcome)
    (set : rows_in fs ≡ set_at (rows_in es) row (row_after (record { less = less; more = more }) (get (rows_in es) row)))
    (few : AreCounted (keys_at row less) (counts_in es)) (room : HaveRoom (keys_at row more) (counts_in es)) where
  abbrev after : Option OutcomeCounts
  after = row_after (record { less = less; more = more }) (get (rows_in es) row)

  at_row : (q : CountKey) (b : Bool) → is_row (row_of q) row ≡ b → number_of_row q (cond b after (get (rows_in es) (row_of q))) + times q (keys_at row less)
      ≡ count_in (counts_in es) q + times q (keys_at row more)
  at_row q false e =
      let was = count-rows (rows_in es) q in let a = times-there q row less e in let b = times-there q row more e in omega (arith, was, a, b)
  at_row q true e =
      let c : OutcomeCounts = counts_or_none (get (rows_in es) row) in
      let was : count_in (counts_in es) q ≡ count_under c q.outcome =
      count-rows (rows_in es) q ∙ ap (λ r. number_of_row q (get (rows_in es) r)) (maps.same_key rows_total rows_exact (row_of q) row e) in
      let a = times-here q row less e in
      let b = times-here q row more e in
      let enough = few q in
      let gone = less-under c less q.outcome (omega (arith, was, a, enough)) in
      let come = more-under (row_step_if s.Minus c less) more q.outcome (λ some. let space = room q (omega (arith, b, some)) in omega (arith, was, b, space, gone)) in
      let now = under-row more (row_step_if s.Plus (row_step_if s.Minus c less) more) q.outcome in
      omega (arith, was, a, b, gone, come, now)

  pub row-moved : IsMoved (keys_at row less) (keys_at row more) (counts_in es) (counts_in fs)
  row-moved q =
      let now : count_in (counts_in fs) q ≡ number_of_row q (cond (is_row (row_of q) row) after (get (rows_in es) (row_of q))) =
      count-rows (rows_in fs) q ∙ ap (λ (m : Rows). number_of_row q (get m (row_of q))) set
      ∙ ap (λ (x : Option OutcomeCounts). number_of_row q x) (maps.get-set_at rows_total rows_exact (rows_in es) row after (row_of q)) in
      let at = at_row q (is_row (row_of q) row) refl in
      omega (arith, now, at)

-- the rows of the code's map after a change of one
pub row-set : (es fs : List Row) (row : RowKey) (less more : Option Outcome) → IsStrictlySortedBy kept_row_cmp (keys_of es)
    → fs ≡ with_value kept_row_cmp row (row_after (record { less = less; more = more }) (lookup (is_at (kept_row_cmp row)) es)) es
    → rows_in fs ≡ set_at (rows_in es) row (row_after (record { less = less; more = more }) (get (rows_in es) row))
row-set es fs row less more sorted put =
    ap rows_in put ∙ stored (row_after (record { less = less; more = more }) (lookup (is_at (kept_row_cmp row)) es))
    ∙ ap (λ x. set_at (rows_in es) row (row_after (record { less = less; more = more }) x)) (sym (row-at es row))
  where
    stored : (x : Option OutcomeCounts) → rows_in (with_value kept_row_cmp row x es) ≡ set_at (rows_in es) row x
    stored None = seen.removed rows_total rows_exact row_key-order es row sorted
    stored (Some v) = seen.inserted rows_total rows_exact row_key-order es row v

-- ---- keys of one row, and of a fact in a view

pub in_value : (view : View) (x : Option Value) (row : RowKey) (o : Option Outcome) → Some row ≡ option_map (λ value. record { view = view; value = value }) x
    → keys_at row o ≡ keys_with x view o
in_value view x row None e = refl
in_value view None row (Some o) e = absurd cc
in_value view (Some value) row (Some o) e = ap (λ (r : Option RowKey). keys_at (unwrap_or r row) (Some o)) e

pub moved-nowhere : (m : Counts) (view : View) (f g : Fact) → value_in view f ≡ value_in view g → f.outcome ≡ g.outcome
    → IsMoved (option_to_list (key_in view f)) (option_to_list (key_in view g)) m m
moved-nowhere m view f g value outcome q =
    λ i. count_in m q + times q (option_to_list (option_map (λ x. count_key view x (outcome i)) (value i)))
