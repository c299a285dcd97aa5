-- When an octet is given: at the packet at which it and all octets before it had come.
use Rattle.std.specs.Prelude.{◌≡◌, ℕ, zero, suc, ◌<◌, ◌≤◌, max, nat_lt, if◌then◌else◌, List, [], ◌∷◌, ◌++◌, length, map, slice_get, Some}
use Rattle.smq_reassembly.specs.declared.packet.Packet.{Packet}
use Rattle.smq_reassembly.specs.Octet.{Octet}
use Rattle.smq_reassembly.specs.Piece.{Piece, octet_in, first_octet}
use Rattle.smq_reassembly.specs.Stream.{IsStream}

-- the later of two packets in the capture. Its moment is raised to that of the first, so that moments never fall
abbrev pub later : Packet → Packet → Packet
later last packet =
    if nat_lt packet.number last.number
    then last
    else record { number = packet.number; moment = max last.moment packet.moment }

-- octets of a stream as they are given: each with the latest of the packets that brought it and those before it
abbrev pub given_after : Packet → List Octet → List Octet
given_after last [] = []
given_after last (o ∷ os) =
    record o { packet = later last o.packet } ∷ given_after (later last o.packet) os

-- the packet with which the last of them is given
abbrev pub last_after : Packet → List Octet → Packet
last_after last [] = last
last_after last (o ∷ os) = last_after (later last o.packet) os

-- where a stream begins, and the moment before which none of its octets is given
pub record Start : Type 0 where
  pub place : ℕ
  pub moment : ℕ

-- before the first octet no packet is the latest
abbrev pub before_first : Start → Packet
before_first start = record { number = 0; moment = start.moment }

-- octets as they are given are the whole stream of pieces
pub record IsGiven (pieces : List Piece) (start : Start) (given : List Octet) : Type 0 where
  pub text : List Octet
  pub stream : IsStream pieces start.place text
  pub moments : given ≡ given_after (before_first start) text

-- a piece is of one packet, and those before it are of earlier ones
pub record Brings (before : List Piece) (piece : Piece) (packet : Packet) : Type 0 where
  pub its : (n : ℕ) (o : Octet) → octet_in piece n ≡ Some o → o.packet ≡ packet
  pub earlier : (n : ℕ) (o : Octet) → first_octet before n ≡ Some o → o.packet.number < packet.number

-- a piece completes a stream up to a place: the stream of the pieces before it is no longer, and with it the stream is
pub record Completes (before : List Piece) (piece : Piece) (start n : ℕ) : Type 0 where
  pub text : List Octet
  pub short : IsStream before start text
  pub less : length text ≤ n
  pub more : List Octet
  pub long : IsStream (before ++ piece ∷ []) start more
  pub greater : n < length more

-- the moment of the octet before one of these, or another one for the first
abbrev pub moment_before : ℕ → List Octet → ℕ → ℕ
moment_before moment [] n = moment
moment_before moment (o ∷ os) zero = moment
moment_before moment (o ∷ os) (suc n) = moment_before o.packet.moment os n

-- each octet is given with the packet that completed the stream up to it, at that one's moment, raised to that of the octet before
abbrev pub IsGivenAtCompletion : List Piece → Piece → List Piece → Packet → Start → List Octet → ℕ → Octet → Type 0
IsGivenAtCompletion before piece after packet start given n o =
    Brings before piece packet → Completes before piece start.place n
    → IsGiven (before ++ piece ∷ after) start given → slice_get given n ≡ Some o
    → (o.packet.number ≡ packet.number)
    × (o.packet.moment ≡ max (moment_before start.moment given n) packet.moment)

-- two lists of octets that are given of the same pieces are one, and their values are those of the stream
abbrev pub IsOneGiven : List Piece → Start → List Octet → List Octet → Type 0
IsOneGiven pieces start given other = IsGiven pieces start given → IsGiven pieces start other → given ≡ other

-- the values of octets
abbrev pub values : List Octet → List ℕ
values octets = map (λ o. o.value) octets

-- what is given has the values of the stream
abbrev pub GivesStream : List Piece → Start → List Octet → List Octet → Type 0
GivesStream pieces start given text =
    IsGiven pieces start given → IsStream pieces start.place text → values given ≡ values text
