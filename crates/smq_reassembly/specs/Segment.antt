-- The piece of a direction that a TCP segment is, and what becomes of it.
use Rattle.std.specs.Prelude.{◌≡◌, ℕ, ◌+◌, ◌-◌, ◌<◌, min, true, List, [], ◌∷◌, ◌++◌, length, drop}
use Rattle.smq_reassembly.specs.declared.packet.Packet.{Packet}
use Rattle.smq_reassembly.specs.declared.sequence.Place.{Place}
use Rattle.smq_reassembly.specs.declared.sequence.Place.TheVariants.{Ahead, Behind}
use Rattle.smq_reassembly.specs.declared.reassembly.Taken.{Taken}
use Rattle.smq_reassembly.specs.declared.reassembly.Taken.TheVariants.{Lends, Waits, Repeats, TooFarAhead}
use Rattle.smq_reassembly.specs.declared.reassembly.TheConstants.{LONGEST, WINDOW}
use Rattle.smq_reassembly.specs.Octet.{Octet, octets_of}
use Rattle.smq_reassembly.specs.Piece.{Piece, octets_in}
use Rattle.smq_reassembly.specs.State.{State}

-- the octets of a segment at their places: what stands before the first octet of the direction is no part of it
abbrev pub piece_of : Place → ℕ → Packet → List ℕ → Piece
piece_of (Ahead far) next packet octets =
    record { at = next + far; octets = octets_of packet true octets }
piece_of (Behind far) next packet octets =
    record { at = next - far; octets = drop (far - next) (octets_of packet true octets) }

-- a piece ends further ahead of the next octet than a window, or than places go
abbrev pub IsTooFarAhead : ℕ → Piece → Type 0
IsTooFarAhead next piece = min (next + WINDOW) LONGEST < piece.at + length piece.octets

-- the octets that a segment gives at once
abbrev pub octets_given : Taken → List Octet
octets_given (Lends next) = octets_of next.packet next.begins next.octets.now
octets_given Waits = []
octets_given Repeats = []
octets_given TooFarAhead = []

-- what each answer says of a direction before and after
abbrev pub Changes : Taken → State → State → Type 0
Changes (Lends next) before after =
    (0 < length next.octets.now) × (after.next ≡ before.next + length next.octets.now)
Changes Waits before after =
    (after.next ≡ before.next) × (after.last ≡ before.last)
    × (octets_in before.waiting < octets_in after.waiting)
Changes Repeats before after = after ≡ before
Changes TooFarAhead before after = after ≡ before

-- a piece that is too far ahead is none of those that came
abbrev pub came : Taken → List Piece → Piece → List Piece
came (Lends next) pieces piece = pieces ++ piece ∷ []
came Waits pieces piece = pieces ++ piece ∷ []
came Repeats pieces piece = pieces ++ piece ∷ []
came TooFarAhead pieces piece = pieces
