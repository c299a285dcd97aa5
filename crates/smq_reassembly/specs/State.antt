-- What a contract sees of a direction, and what it knows of the pieces that came.
use Rattle.std.specs.Prelude.{◌≡◌, ℕ, ◌+◌, ◌<◌, ◌≤◌, List, length, slice_get}
use Rattle.smq_reassembly.specs.declared.packet.Packet.{Packet}
use Rattle.smq_reassembly.specs.Octet.{Octet}
use Rattle.smq_reassembly.specs.Piece.{Piece, first_octet}
use Rattle.smq_reassembly.specs.Moment.{Start, before_first, given_after, last_after}

-- a direction: the place of its next octet, the packet with which the last octet was given, and the pieces that wait
pub record State : Type 0 where
  pub next : ℕ
  pub last : Packet
  pub waiting : List Piece

-- what was given is the stream so far, and what waits knows the first copy of each octet that follows
pub record Follows (pieces : List Piece) (start : Start) (given : List Octet) (state : State) : Type 0 where
  pub text : List Octet
  pub place : start.place + length text ≡ state.next
  pub each : (n : ℕ) → n < length text → slice_get text n ≡ first_octet pieces (start.place + n)
  pub moments : given ≡ given_after (before_first start) text
  pub last : state.last ≡ last_after (before_first start) text
  pub waits : (n : ℕ) → state.next ≤ n → first_octet state.waiting n ≡ first_octet pieces n
