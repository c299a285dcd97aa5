use Rattle.std.proofs.Common.{List}
use Rattle.smq_reassembly.specs.Capture.{octets_of_parts}
use Rattle.smq_reassembly.specs.Moment.{Start}
use Rattle.smq_reassembly.specs.Piece.{Piece, octets_in}
use Rattle.smq_reassembly.specs.State.{Follows}
use Rattle.smq_reassembly.proofs.capture.give_waiting.Given as goal

abbrev pub invariant-parts : goal.invariant-parts
invariant-parts l =
    (pieces : List Piece) (start : Start) → Follows pieces start (octets_of_parts l.initial.parts.items) l.initial.direction
    → Follows pieces start (octets_of_parts l.parts.items) l.direction

abbrev pub decreases-parts : goal.decreases-parts
decreases-parts l = octets_in l.direction.waiting
