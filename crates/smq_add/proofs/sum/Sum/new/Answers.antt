use Rattle.std.proofs.Common.{sym, ◌∙◌}
use Rattle.smq_add.specs.declared.row.Row.{Row}
use Rattle.smq_add.proofs.KeyLemmas.{keys_exact, keys_total}
use Rattle.smq_add.proofs.SumLemmas.{entries-none}
use Rattle.smq_add.proofs.sum.Sum.new.Goals as goal

pub returns : goal.returns
returns c = c.new.ensures.empty ∙ sym (entries-none keys_total keys_exact (λ (row : Row). row.key) (λ (row : Row). row.count))
