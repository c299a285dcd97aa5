use Rattle.std.proofs.Common.{◌≡◌, take}
use Rattle.smq_count.specs.Cells.{tuple_by}
use Rattle.smq_count.proofs.counting.Counting.tuple.Given as goal

abbrev pub invariant-loop-column : goal.invariant-loop-column
invariant-loop-column l = l.tuple.items ≡ tuple_by l.self.zone (take l.column-index l.column-items) l.line
