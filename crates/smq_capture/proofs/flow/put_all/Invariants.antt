use Rattle.std.proofs.Common.{List}
use Rattle.smq_reassembly.specs.Octet.{Octet}
use Rattle.smq_streams.specs.Direction.{left_in}
use Rattle.smq_capture.specs.Flow.{Flows, History, OnlyPuts, Puts, with_put}
use Rattle.smq_capture.specs.Rows.{Row}
use Rattle.smq_capture.proofs.flow.put_all.Given as goal

abbrev pub invariant-parts : goal.invariant-parts
invariant-parts l = record {
  flows : (s : History) (written : List Row) → Flows s written l.side l.initial.direction l.initial.rows
      → (more : List Octet) × Flows (with_put more s) written l.side l.direction l.rows;
  puts : Puts l.side l.initial.rows l.rows;
  same : OnlyPuts l.initial.direction l.direction;
}

abbrev pub decreases-parts : goal.decreases-parts
decreases-parts l = left_in l.direction.stream
