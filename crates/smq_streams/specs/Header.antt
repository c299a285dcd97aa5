-- Headers of PDUs among octets (SMPP 3.4, 3.2 and 5.1).
use Rattle.std.specs.Prelude.{◌≡◌, ℕ, ◌+◌, ◌<◌, ◌≤◌, List, length, take, drop}
use Rattle.std.specs.Int.{w32, from_be_bytes}
use Rattle.smq_streams.specs.declared.headers.Header.{Header}
use Rattle.smq_streams.specs.declared.headers.Header.TheVariants.{Whole, Part, Other}
use Rattle.smq_streams.specs.Command.{IsCommand}

-- the number of the four octets at a place, the first of them counting most
unfoldable pub number_at : ℕ → List ℕ → ℕ
number_at place octets = from_be_bytes w32 (take 4 (drop place octets))

-- a PDU has 16 to 131,072 octets
pub record IsLength (n : ℕ) : Type 0 where
  pub low : 16 ≤ n
  pub high : n ≤ 131072

-- a command_length, a command_id and a command_status of one header: requests have no status
pub record AreHeader (size command status : ℕ) : Type 0 where
  pub is_length : IsLength size
  pub is_command : IsCommand command
  pub no_status : command < 0x8000_0000 → status ≡ 0

-- a whole header stands at a place of octets
pub record IsHeaderAt (octets : List ℕ) (place : ℕ) : Type 0 where
  pub whole : place + 16 ≤ length octets
  pub numbers :
      AreHeader (number_at place octets) (number_at (place + 4) octets) (number_at (place + 8) octets)

-- some header has the numbers that are whole there
pub record MayBeHeaderAt (octets : List ℕ) (place : ℕ) : Type 0 where
  pub size : ℕ
  pub command : ℕ
  pub status : ℕ
  pub numbers : AreHeader size command status
  pub same_size : place + 4 ≤ length octets → size ≡ number_at place octets
  pub same_command : place + 8 ≤ length octets → command ≡ number_at (place + 4) octets
  pub same_status : place + 12 ≤ length octets → status ≡ number_at (place + 8) octets

-- a part of a header stands there, as far as the octets go, or no octet
pub record IsPartAt (octets : List ℕ) (place : ℕ) : Type 0 where
  pub part : length octets < place + 16
  pub may : MayBeHeaderAt octets place

-- what stands at a place: a whole header and the length that it states, a part of one, or neither
abbrev pub Stands : List ℕ → ℕ → Header → Type 0
Stands octets place (Whole size) = IsHeaderAt octets place × (size ≡ number_at place octets)
Stands octets place Part = IsPartAt octets place
Stands octets place Other = (IsHeaderAt octets place → ⊥) × (IsPartAt octets place → ⊥)
