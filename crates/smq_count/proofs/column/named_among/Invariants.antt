use Rattle.std.proofs.Common.{◌≡◌, drop, find}
use Rattle.smq_count.specs.Columns.{is_named}
use Rattle.smq_count.proofs.column.named_among.Given as goal

abbrev pub invariant-loop-column : goal.invariant-loop-column
invariant-loop-column l = find (is_named l.name) l.columns ≡ find (is_named l.name) (drop l.column-index l.columns)
