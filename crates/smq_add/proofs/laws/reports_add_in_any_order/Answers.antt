use Rattle.std.proofs.Common.{ℕ, ap}
use Rattle.std.specs.FinMap.{FinMap, entries}
use Rattle.smq_add.specs.declared.row.Row.{Row}
use Rattle.smq_add.specs.Rows.{key_cmp}
use Rattle.smq_add.proofs.KeyLemmas.{keys_exact, keys_total}
use Rattle.smq_add.proofs.SumLemmas.{totals-turned}
use Rattle.smq_add.proofs.laws.reports_add_in_any_order.Goals as goal

pub returns : goal.returns
returns c some others =
    ap (λ (m : FinMap key_cmp ℕ). entries m) (totals-turned keys_total keys_exact (λ (row : Row). row.key) (λ (row : Row). row.count) some others)
