use Rattle.std.proofs.Common.{List, [], take}
use Rattle.smq_reassembly.specs.Capture.{AllCome, octets_of_parts}
use Rattle.smq_reassembly.specs.Moment.{IsGiven}
use Rattle.smq_reassembly.specs.Piece.{Piece}
use Rattle.smq_reassembly.specs.State.{Follows}
use Rattle.smq_reassembly.proofs.capture.parts_of.Given as goal

abbrev pub invariant-loop-segment : goal.invariant-loop-segment
invariant-loop-segment l =
    (pieces : List Piece) × AllCome l.first [] (take l.segment-index l.segments) pieces
    × Follows pieces (record { place = 0; moment = 0 }) (octets_of_parts l.parts.items) l.direction
    × IsGiven pieces (record { place = 0; moment = 0 }) (octets_of_parts l.parts.items)
