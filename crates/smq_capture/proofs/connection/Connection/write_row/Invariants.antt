use Rattle.std.proofs.Common.{◌≡◌, ◌++◌, List, length}
use Rattle.std.specs.Io.KnownBytes.{Appends}
use Rattle.smq_capture.specs.Rows as rows
use Rattle.smq_capture.specs.Written.{parts_text}
use Rattle.smq_capture.proofs.connection.Connection.write_row.Given as goal

abbrev pub invariant-parts : goal.invariant-parts
invariant-parts g l = record {
  parts : (done : List rows.Part) × (l.initial.parts ≡ done ++ l.parts)
      × Appends (g.S.Sink.contents l.initial.output.sink) (g.S.Sink.contents l.output.sink)
      (parts_text l.initial.self.link l.initial.row done);
  same : (l.self.link ≡ l.initial.self.link) × (l.self.flow ≡ l.initial.self.flow);
}

abbrev pub decreases-parts : goal.decreases-parts
decreases-parts g l = length l.parts
