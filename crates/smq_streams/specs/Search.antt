-- The octets of a direction among which the first PDU is looked for.
use Rattle.std.specs.Prelude.{◌≡◌, ℕ, zero, suc, ◌+◌, ◌-◌, ◌^◌, ◌<◌, ◌≤◌, ◌⊎◌, min, nat_le, if◌then◌else◌, Bool, true, false, List, [], ◌∷◌, ◌++◌, length, drop, map, slice_get, Option, Some, None}
use Rattle.smq_reassembly.specs.declared.packet.Packet.{Packet}
use Rattle.smq_reassembly.specs.Octet.{Octet, octets_of}
use Rattle.smq_reassembly.specs.Moment.{values}
use Rattle.smq_streams.specs.declared.given.Given.{Given}
use Rattle.smq_streams.specs.declared.headers.Sight.{Sight}
use Rattle.smq_streams.specs.declared.headers.Sight.TheVariants.{Begins, Unclear, Other}
use Rattle.smq_streams.specs.Sight.{IsSeen, IsUnclear}

-- octets that follow one another, the place of the first, how many were passed over since it was last asked, and how many before them,
-- which were looked at, are still kept
pub record Search : Type 0 where
  pub place : ℕ
  pub octets : List Octet
  pub passed : ℕ
  pub looked : ℕ

-- octets that were given, each with its packet
abbrev pub octets_given : Given → List Octet
octets_given given =
    octets_of (record { number = given.number; moment = given.moment }) given.begins given.octets.items

-- whether an octet is the first of its segment
abbrev pub is_begin : Option Octet → Bool
is_begin None = false
is_begin (Some o) = o.begins

-- a PDU is seen to begin at an octet
abbrev pub IsSeenAt : List Octet → ℕ → Type 0
IsSeenAt octets n = IsSeen (values octets) n (is_begin (slice_get octets n))

-- what follows decides whether one does
abbrev pub IsUnclearAt : List Octet → ℕ → Type 0
IsUnclearAt octets n = IsUnclear (values octets) n (is_begin (slice_get octets n))

-- what is seen at the front of octets, where more may follow or none do
abbrev pub Shows : Bool → List ℕ → Bool → Sight → Type 0
Shows is_end octets is_start Begins = IsSeen octets 0 is_start
Shows is_end octets is_start Unclear = (is_end ≡ false) × IsUnclear octets 0 is_start
Shows is_end octets is_start Other =
    (IsSeen octets 0 is_start → ⊥) × (is_end ≡ false → IsUnclear octets 0 is_start → ⊥)

-- a count of 64 bits and so many more: it stops at the greatest
abbrev pub counted : ℕ → ℕ → ℕ
counted count zero = count
counted count (suc n) = min (count + suc n) (2 ^ 64 - 1)

-- so many octets are passed over
abbrev pub beyond : ℕ → Search → Search
beyond n s =
    record {
      place = counted s.place n;
      octets = drop n s.octets;
      passed = counted s.passed n;
      looked = s.looked + n;
    }

-- of octets that were looked at none are kept where none follow them
abbrev pub kept_before : List Octet → ℕ → ℕ
kept_before [] looked = 0
kept_before (o ∷ os) looked = looked

abbrev pub emptied : Search → Search
emptied s = record s { looked = kept_before s.octets s.looked }

-- they are let go where they are 65,536 or more
abbrev pub trimmed : Search → Search
trimmed s = record s { looked = if nat_le 65536 s.looked then 0 else s.looked }

-- so many octets begin no PDU: as far as the octets go, and, if more may follow, whatever does
pub record BeginNone (is_end : Bool) (octets : List Octet) (n : ℕ) : Type 0 where
  pub within : n ≤ length octets
  pub none : (m : ℕ) → m < n → IsSeenAt octets m → ⊥
  pub never : is_end ≡ false → (m : ℕ) → m < n → (more : List Octet) → IsSeenAt (octets ++ more) m → ⊥

-- the search stopped: at an octet where a PDU is seen to begin, or, if none is, behind the last octet or, if more may follow, where
-- they decide
abbrev pub Stops : Bool → List Octet → Bool → Type 0
Stops is_end octets true = IsSeenAt octets 0
Stops is_end octets false = (octets ≡ []) ⊎ ((is_end ≡ false) × IsUnclearAt octets 0)

-- the octets passed over begin no PDU, and the search stopped at the one behind them
pub record Finds (is_end : Bool) (before after : Search) (is_found : Bool) : Type 0 where
  pub count : ℕ
  pub passed : BeginNone is_end before.octets count
  pub after_is : after ≡ emptied (beyond count before)
  pub stops : Stops is_end after.octets is_found

-- the place of the first octet, where others were given: theirs where there was none
abbrev pub place_with : ℕ → List Octet → ℕ → ℕ
place_with given [] place = given
place_with given (o ∷ os) place = place

-- octets are put behind those of a search
abbrev pub with_given : Given → Search → Search
with_given given s =
    trimmed (record s {
      place = place_with given.place s.octets s.place;
      octets = s.octets ++ octets_given given;
    })
