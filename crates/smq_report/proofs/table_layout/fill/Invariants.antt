-- What stands there, and the spaces so far.
use Rattle.std.proofs.Common.{◌≡◌, ◌++◌}
use Rattle.std.specs.Prelude.{replicate, string_bytes}
use Rattle.smq_report.proofs.table_layout.fill.Given as goal

abbrev pub invariant-loop-filled : goal.invariant-loop-filled
invariant-loop-filled l = string_bytes l.page ≡ string_bytes l.initial.page ++ replicate l.filled 32
