use Rattle.std.proofs.Common.{◌≡◌, map, string_bytes, take}
use Rattle.smq_count.specs.Columns.{column_name}
use Rattle.smq_count.proofs.counted.names_of.Given as goal

abbrev pub invariant-loop-column : goal.invariant-loop-column
invariant-loop-column l = map string_bytes l.names.items ≡ map column_name (take l.column-index l.columns)
