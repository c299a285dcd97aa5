-- Sequence numbers of TCP (RFC 9293, 3.4).
use Rattle.std.specs.Prelude.{◌≡◌, ℕ, ◌+◌, ◌%◌, ◌^◌, ◌<◌, ◌≤◌}
use Rattle.smq_reassembly.specs.declared.sequence.Place.{Place}
use Rattle.smq_reassembly.specs.declared.sequence.Place.TheVariants.{Ahead, Behind}

-- the number that the octet at a place has, where the first octet has this one
abbrev pub sequence_of : ℕ → ℕ → ℕ
sequence_of first place = (first + place) % 2 ^ 32

-- an octet so far after a place has this number, and it is the nearest
pub record IsAhead (first next sequence far : ℕ) : Type 0 where
  pub near : far < 2 ^ 31
  pub same : sequence_of first (next + far) ≡ sequence

-- an octet so far before a place has this number, and it is the nearest
pub record IsBehind (first next sequence far : ℕ) : Type 0 where
  pub some : 0 < far
  pub near : far ≤ 2 ^ 31
  pub same : (sequence + far) % 2 ^ 32 ≡ sequence_of first next

-- an octet with this number stands there: the place with that number that is nearest to another
abbrev pub IsPlace : ℕ → ℕ → ℕ → Place → Type 0
IsPlace first next sequence (Ahead far) = IsAhead first next sequence far
IsPlace first next sequence (Behind far) = IsBehind first next sequence far

-- two such places are one
abbrev pub IsOnePlace : ℕ → ℕ → ℕ → Place → Place → Type 0
IsOnePlace first next sequence place other =
    IsPlace first next sequence place → IsPlace first next sequence other → place ≡ other
