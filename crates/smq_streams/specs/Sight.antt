-- Where a PDU is seen to begin among octets.
use Rattle.std.specs.Prelude.{◌≡◌, ℕ, ◌+◌, ◌<◌, ◌⊎◌, ◌==◌, Bool, true, false, List, length, Option, Some, None}
use Rattle.smq_streams.specs.declared.headers.Sight.{Sight}
use Rattle.smq_streams.specs.declared.headers.Sight.TheVariants.{Begins, Unclear, Other}
use Rattle.smq_streams.specs.Header.{IsHeaderAt, IsPartAt, number_at}

-- the place behind the PDU whose header stands at a place
abbrev pub behind : List ℕ → ℕ → ℕ
behind octets place = place + number_at place octets

-- a PDU is seen to begin where two whole headers follow one another; or, at a segment's start, one whole header and behind its PDU
-- what may be a header, as far as the octets go
pub record IsSeen (octets : List ℕ) (place : ℕ) (is_start : Bool) : Type 0 where
  pub header : IsHeaderAt octets place
  pub next :
      IsHeaderAt octets (behind octets place)
      ⊎ ((is_start ≡ true) × IsPartAt octets (behind octets place))

-- more octets decide whether one begins there
abbrev pub IsUnclear : List ℕ → ℕ → Bool → Type 0
IsUnclear octets place is_start =
    IsPartAt octets place
    ⊎ (IsHeaderAt octets place × (is_start ≡ false) × IsPartAt octets (behind octets place))

-- the first place of a segment at which one is seen to begin, if there is any
abbrev pub IsFirstPdu : List ℕ → Option ℕ → Type 0
IsFirstPdu octets None = (n : ℕ) → IsSeen octets n (n == 0) → ⊥
IsFirstPdu octets (Some place) =
    IsSeen octets place (place == 0) × ((n : ℕ) → n < place → IsSeen octets n (n == 0) → ⊥)

-- what the octets at a place look like
abbrev pub LooksLike : List ℕ → ℕ → Bool → Sight → Type 0
LooksLike octets place is_start Begins = IsSeen octets place is_start
LooksLike octets place is_start Unclear = IsUnclear octets place is_start
LooksLike octets place is_start Other =
    (IsSeen octets place is_start → ⊥) × (IsUnclear octets place is_start → ⊥)
