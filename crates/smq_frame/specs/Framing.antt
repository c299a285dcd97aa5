-- How octets are frames (SMPP 3.4, section 3; the limit of 131,072 octets is this project's).
use Rattle.std.specs.Prelude.{◌≡◌, ℕ, zero, suc, ◌<◌, ◌≤◌, ◌⊎◌, Bool, ◌&&◌, ◌||◌, nat_le, nat_lt, if◌then◌else◌, List, [], ◌∷◌, ◌++◌, length, take, drop}
use Rattle.std.specs.Int.{w32, from_be_bytes}
use Rattle.std.specs.List.{concat, AllByRecursion}

-- each number is an octet
abbrev pub AreOctets : List ℕ → Type 0
AreOctets octets = AllByRecursion (λ octet. octet < 256) octets

-- the length that the first four octets state, the first of them counting most
unfoldable pub stated_length : List ℕ → ℕ
stated_length octets = from_be_bytes w32 (take 4 octets)

-- a frame has 16 to 131,072 octets
pub record IsGoodLength (n : ℕ) : Type 0 where
  pub low : 16 ≤ n
  pub high : n ≤ 131072

-- the first four octets of a frame state its own length
pub record IsFrame (frame : List ℕ) : Type 0 where
  pub stated : stated_length frame ≡ length frame
  pub good : IsGoodLength (length frame)

-- octets wait for more where they are too few to state a length, or fewer than they state
abbrev pub IsWaiting : List ℕ → Type 0
IsWaiting rest =
    (length rest < 4)
    ⊎ ((4 ≤ length rest) × IsGoodLength (stated_length rest) × (length rest < stated_length rest))

-- octets are bad where they state a length outside the limits
abbrev pub IsBad : List ℕ → Type 0
IsBad rest = (4 ≤ length rest) × ((stated_length rest < 16) ⊎ (131072 < stated_length rest))

-- the octets are these frames, one after the other, and this rest, which waits or is bad
pub record Splits (octets : List ℕ) (frames : List (List ℕ)) (rest : List ℕ) : Type 0 where
  pub whole : octets ≡ concat frames ++ rest
  pub each : AllByRecursion IsFrame frames
  pub ends : IsWaiting rest ⊎ IsBad rest

-- ---- the one list of frames, and the one rest, computed

-- whether a whole frame stands at the front
abbrev pub begins_frame : List ℕ → Bool
begins_frame octets =
    nat_le 4 (length octets) && nat_le 16 (stated_length octets)
    && nat_le (stated_length octets) 131072 && nat_le (stated_length octets) (length octets)

-- whether a length outside the limits stands at the front
abbrev pub is_bad : List ℕ → Bool
is_bad octets =
    nat_le 4 (length octets)
    && (nat_lt (stated_length octets) 16 || nat_lt 131072 (stated_length octets))

-- the frames at the front of the octets, at most so many
unfoldable pub frames_within : ℕ → List ℕ → List (List ℕ)
frames_within zero octets = []
frames_within (suc n) octets =
    if begins_frame octets
    then take (stated_length octets) octets ∷ frames_within n (drop (stated_length octets) octets)
    else []

-- what is left after them
unfoldable pub rest_within : ℕ → List ℕ → List ℕ
rest_within zero octets = octets
rest_within (suc n) octets =
    if begins_frame octets
    then rest_within n (drop (stated_length octets) octets)
    else octets

-- the frames of some octets, of which there are no more than octets
unfoldable pub frames_of : List ℕ → List (List ℕ)
frames_of octets = frames_within (length octets) octets

-- what is left after the frames of some octets
unfoldable pub rest_of : List ℕ → List ℕ
rest_of octets = rest_within (length octets) octets

-- exactly one list of frames and one rest stand in the relation: those that are computed
abbrev pub HasOneSplit : List ℕ → Type 0
HasOneSplit octets =
    Splits octets (frames_of octets) (rest_of octets)
    × ((frames : List (List ℕ)) (rest : List ℕ) → Splits octets frames rest →
    (frames ≡ frames_of octets) × (rest ≡ rest_of octets))
