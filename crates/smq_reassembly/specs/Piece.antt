-- Octets of a direction at their places.
use Rattle.std.specs.Prelude.{ℕ, ◌+◌, ◌-◌, ◌<◌, ◌≤◌, if◌then◌else◌, nat_le, List, [], ◌∷◌, length, slice_get, Option, Some, None}
use Rattle.std.specs.Option.{option_map, option_or}
use Rattle.smq_reassembly.specs.declared.packet.Packet.{Packet}
use Rattle.smq_reassembly.specs.Octet.{Octet}

-- octets of a direction, and how many octets of it stand before the first of them
pub record Piece : Type 0 where
  pub at : ℕ
  pub octets : List Octet

-- the octet that a piece has at a place
abbrev pub octet_in : Piece → ℕ → Option Octet
octet_in p place = if nat_le p.at place then slice_get p.octets (place - p.at) else None

-- the first copy of the octet at a place, in the order in which the pieces came
abbrev pub first_octet : List Piece → ℕ → Option Octet
first_octet [] place = None
first_octet (p ∷ ps) place = option_or (octet_in p place) (first_octet ps place)

-- how many octets pieces have
abbrev pub octets_in : List Piece → ℕ
octets_in [] = 0
octets_in (p ∷ ps) = length p.octets + octets_in ps

-- the place of the first octet of the first piece
abbrev pub first_place : List Piece → Option ℕ
first_place [] = None
first_place (p ∷ ps) = Some p.at

-- the packet of the first octet of the first piece
abbrev pub first_packet : List Piece → Option Packet
first_packet [] = None
first_packet (p ∷ ps) = option_map (λ (o : Octet). o.packet) (slice_get p.octets 0)

-- pieces stand one behind the other from a place on, so that no two have an octet at one place
abbrev pub AreApart : ℕ → List Piece → Type 0
AreApart from [] = Unit {0}
AreApart from (p ∷ ps) = (from ≤ p.at) × (0 < length p.octets) × AreApart (p.at + length p.octets) ps
