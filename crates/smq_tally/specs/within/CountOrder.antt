-- The orders by which the code keeps counts, and that those of the definitions are total.
use Rattle.std.specs.Prelude.{Bool}
use Rattle.std.specs.Cmp.{IsTotalOrder}
use Rattle.std.specs.declared.cmp.Ordering.{Ordering}
use Rattle.std.proofs.lemmas.Cmp.{on_total, then_total, lists_total, nat_cmp_total}
use Rattle.smq_tally.specs.declared.band.Band.{Band}
use Rattle.smq_tally.specs.declared.fact.CountKey.{CountKey}
use Rattle.smq_tally.specs.declared.fact.RowKey.{RowKey}
use Rattle.smq_tally.specs.declared.value.Value.{Value}
use Rattle.smq_tally.specs.declared.value.Value.TheVariants as w
use Rattle.smq_tally.specs.declared.view.View.{View}
use Rattle.smq_tally.specs.contracts.band.BandOrd.TheImpl as band_ord
use Rattle.smq_tally.specs.contracts.fact.CountKeyOrd.TheImpl as key_ord
use Rattle.smq_tally.specs.contracts.fact.RowKeyOrd.TheImpl as row_ord
use Rattle.smq_tally.specs.contracts.value.ValueOrd.TheImpl as value_ord
use Rattle.smq_tally.specs.contracts.value.ValuePartialEq.TheImpl as value_eq
use Rattle.smq_tally.specs.Rows.{count_cmp, value_cmp, value_numbers, outcome_rank, view_rank}
use Rattle.smq_tally.specs.within.RowCounts.{row_cmp}

-- `cmp` of keys of counts
abbrev pub kept_cmp : CountKey → CountKey → Ordering
kept_cmp = (key_ord.ghosts).cmp

-- the order by which the map of rows compares their keys
abbrev pub kept_row_cmp : RowKey → RowKey → Ordering
kept_row_cmp = (row_ord.ghosts).cmp

-- `cmp` of bands
abbrev pub kept_band_cmp : Band → Band → Ordering
kept_band_cmp = (band_ord.ghosts).cmp

-- `cmp` of values
abbrev pub kept_value_cmp : Value → Value → Ordering
kept_value_cmp = (value_ord.ghosts).cmp

-- `==` of values
abbrev pub kept_value_eq : Value → Value → Bool
kept_value_eq = (value_eq.ghosts).eq

-- the order of values is total
pub values_total : IsTotalOrder value_cmp
values_total = on_total value_numbers (lists_total nat_cmp_total)

-- the order of keys is total
pub count_keys_total : IsTotalOrder count_cmp
count_keys_total =
    then_total (on_total (λ k. view_rank k.view) nat_cmp_total)
    (then_total (on_total (λ k. k.value) values_total) (on_total (λ k. outcome_rank k.outcome) nat_cmp_total))

-- the order of rows is total
pub rows_total : IsTotalOrder row_cmp
rows_total = then_total (on_total (λ k. view_rank k.view) nat_cmp_total) (on_total (λ k. k.value) values_total)

-- the value before which there is none
abbrev pub first_value : Value
first_value = w.Link (record { 0 = 0 })

-- what comes before all other rows that a view can have
abbrev pub first_row : View → RowKey
first_row view = record { view = view; value = first_value }
