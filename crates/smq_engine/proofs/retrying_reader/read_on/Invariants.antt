-- Reads that were interrupted consumed nothing, and the room stays as long.
use Rattle.std.proofs.Common.{◌≡◌, length}
use Rattle.std.specs.Io.KnownBytes.{Keeps}
use Rattle.smq_engine.proofs.retrying_reader.read_on.Given as goal

abbrev pub invariant-loop : goal.invariant-loop
invariant-loop g l =
    (length l.octets ≡ length l.fn.octets) × Keeps (g.R.Read.remaining l.fn.reader) (g.R.Read.remaining l.reader)
