-- Rows of counts: the counts that have a view and a value, by outcome.
use Rattle.std.specs.Prelude.{ℕ, ◌+◌, ◌-◌, ◌^◌, cond, min, List, [], ◌∷◌, map, Option, Some, None, option_map, option_to_list, unwrap_or}
use Rattle.std.specs.List.{flat_map}
use Rattle.std.specs.FinMap as fin
use Rattle.std.specs.declared.cmp.Ordering.{Ordering}
use Rattle.std.specs.Ordering.{nat_cmp, ordering_then}
use Rattle.smq_kit.specs.Maps.{positive}
use Rattle.smq_tally.specs.declared.counts.Delta.{Delta}
use Rattle.smq_tally.specs.declared.counts.Delta.TheVariants as s
use Rattle.smq_tally.specs.declared.fact.CountKey.{CountKey}
use Rattle.smq_tally.specs.declared.fact.RowKey.{RowKey}
use Rattle.smq_tally.specs.declared.outcome.Outcome.{Outcome}
use Rattle.smq_tally.specs.declared.outcome.Outcome.TheVariants as o
use Rattle.smq_tally.specs.declared.counts.OutcomeCounts.{OutcomeCounts}
use Rattle.smq_tally.specs.declared.counts.RowChange.{RowChange}
use Rattle.smq_tally.specs.contracts.counts.OutcomeCountsPartialEq.TheImpl as counts_eq
use Rattle.smq_tally.specs.declared.fact.Fact.{Fact}
use Rattle.smq_tally.specs.declared.value.Value.{Value}
use Rattle.smq_tally.specs.declared.view.View.{View}
use Rattle.smq_tally.specs.Rows.{view_rank, value_cmp, value_in, count_key}
use Rattle.smq_tally.specs.Tables.{ShownRow}
use Rattle.smq_tally.specs.within.Counting.{Counts}

-- ---- the counts of a row

-- the outcomes, in their order
abbrev pub outcomes : List Outcome
outcomes =
    o.Waiting ∷ o.Mismatched ∷ o.Refused ∷ o.NoId ∷ o.Ambiguous ∷ o.Delivered ∷ o.Failed ∷ o.Unasked ∷ o.Lapsed ∷ o.Open ∷ []

-- the counts of no messages
abbrev pub no_counts : OutcomeCounts
no_counts = record {
  waiting = 0;
  mismatched = 0;
  refused = 0;
  no_id = 0;
  ambiguous = 0;
  delivered = 0;
  failed = 0;
  unasked = 0;
  lapsed = 0;
  «open» = 0;
}

-- how many have an outcome
abbrev pub count_under : OutcomeCounts → Outcome → ℕ
count_under c o.Waiting = c.waiting
count_under c o.Mismatched = c.mismatched
count_under c o.Refused = c.refused
count_under c o.NoId = c.no_id
count_under c o.Ambiguous = c.ambiguous
count_under c o.Delivered = c.delivered
count_under c o.Failed = c.failed
count_under c o.Unasked = c.unasked
count_under c o.Lapsed = c.lapsed
count_under c o.Open = c.«open»

-- these outcomes with how many have them, where that isn't 0
abbrev pub numbers_under : OutcomeCounts → List Outcome → List (Outcome × ℕ)
numbers_under c os = flat_map (λ outcome. map (λ n. (outcome, n)) (option_to_list (positive (count_under c outcome)))) os

-- the counts where this many have an outcome
abbrev pub with_count_under : OutcomeCounts → Outcome → ℕ → OutcomeCounts
with_count_under c o.Waiting n = record c { waiting = n }
with_count_under c o.Mismatched n = record c { mismatched = n }
with_count_under c o.Refused n = record c { refused = n }
with_count_under c o.NoId n = record c { no_id = n }
with_count_under c o.Ambiguous n = record c { ambiguous = n }
with_count_under c o.Delivered n = record c { delivered = n }
with_count_under c o.Failed n = record c { failed = n }
with_count_under c o.Unasked n = record c { unasked = n }
with_count_under c o.Lapsed n = record c { lapsed = n }
with_count_under c o.Open n = record c { «open» = n }

-- a count that is one more, or one fewer, within 64 bits
abbrev pub stepped_within : Delta → ℕ → ℕ
stepped_within s.Plus n = min (n + 1) (2 ^ 64 - 1)
stepped_within s.Minus n = n - 1

-- the counts where one more has an outcome, or one fewer
abbrev pub row_step : Delta → OutcomeCounts → Outcome → OutcomeCounts
row_step step c outcome = with_count_under c outcome (stepped_within step (count_under c outcome))

-- the same where there may be no outcome
abbrev pub row_step_if : Delta → OutcomeCounts → Option Outcome → OutcomeCounts
row_step_if step c None = c
row_step_if step c (Some outcome) = row_step step c outcome

-- the counts of a row, or of none
abbrev pub counts_or_none : Option OutcomeCounts → OutcomeCounts
counts_or_none row = unwrap_or row no_counts

-- counts as a row after a message came, or none did: none where they are of no messages
abbrev pub as_row : Option Outcome → OutcomeCounts → Option OutcomeCounts
as_row (Some outcome) c = Some c
as_row None c = cond ((counts_eq.ghosts).eq c no_counts) None (Some c)

-- what a change makes of a row, or of none
abbrev pub row_after : RowChange → Option OutcomeCounts → Option OutcomeCounts
row_after change before = as_row change.more (row_step_if s.Plus (row_step_if s.Minus (counts_or_none before) change.less) change.more)

-- ---- rows by their keys

-- the row of a count
abbrev pub row_of : CountKey → RowKey
row_of key = record { view = key.view; value = key.value }

-- the keys of a row with an outcome, where there is one
abbrev pub keys_at : RowKey → Option Outcome → List CountKey
keys_at row outcome = option_to_list (option_map (λ x. count_key row.view row.value x) outcome)

-- the row in which a message is counted in a view, if it has a value there
abbrev pub row_in : View → Fact → Option RowKey
row_in view f = option_map (λ value. record { view = view; value = value }) (value_in view f)

-- the keys of a view with a value and an outcome, where there are both
abbrev pub keys_with : Option Value → View → Option Outcome → List CountKey
keys_with value view None = []
keys_with value view (Some outcome) = option_to_list (option_map (λ x. count_key view x outcome) value)

-- the order of rows: by view, then by value
abbrev pub row_cmp : RowKey → RowKey → Ordering
row_cmp a b = ordering_then (nat_cmp (view_rank a.view) (view_rank b.view)) (value_cmp a.value b.value)

-- rows by their keys
abbrev pub Rows : Type 0
Rows = fin.FinMap row_cmp OutcomeCounts

-- the counts of a row of these outcomes, where they aren't 0
abbrev pub counts_under : RowKey × OutcomeCounts → List Outcome → List (CountKey × ℕ)
counts_under row os = map (λ e. (count_key row.0.view row.0.value e.0, e.1)) (numbers_under row.1 os)

-- the counts of rows, where they aren't 0
abbrev pub counts_among : List (RowKey × OutcomeCounts) → List (CountKey × ℕ)
counts_among rows = flat_map (λ row. counts_under row outcomes) rows

-- the counts in rows
abbrev pub counts_of : Rows → Counts
counts_of rows = fin.from_entries (counts_among (fin.entries rows))

-- entries of rows as a finite map
abbrev pub rows_in : List (RowKey × OutcomeCounts) → Rows
rows_in es = fin.from_entries es

-- ---- rows as they are shown

-- the counts of a row of these outcomes, as they are shown
abbrev pub shown_under : RowKey × OutcomeCounts → List Outcome → List ShownRow
shown_under row os = map (λ e. (row.0.value, e.0, e.1)) (numbers_under row.1 os)

-- the same of a row that was begun, if one was
abbrev pub begun_left : Option (RowKey × OutcomeCounts) → List Outcome → List ShownRow
begun_left None os = []
begun_left (Some row) os = shown_under row os

-- the counts of rows, as they are shown
abbrev pub shown_among : List (RowKey × OutcomeCounts) → List ShownRow
shown_among rows = flat_map (λ row. shown_under row outcomes) rows
