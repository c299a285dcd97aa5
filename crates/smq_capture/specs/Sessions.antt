-- The sessions of a direction, as its octets are settled.
use Rattle.std.specs.Prelude.{◌≡◌, ℕ, ◌+◌, ◌-◌, ◌<◌, ◌⊎◌, min, List, ◌++◌, length, take, drop, Option, Some, None}
use Rattle.smq_streams.specs.declared.framer.Framer.{Framer}
use Rattle.smq_streams.specs.declared.framer.Framer.TheVariants.{Broken}
use Rattle.smq_streams.specs.Framing.{IsFramed, IsNextPdu, IsUnderWay}
use Rattle.smq_streams.specs.Sight.{IsFirstPdu}
use Rattle.smq_capture.specs.declared.direction.Direction.{Direction}
use Rattle.smq_capture.specs.declared.direction.Following.{Following}

-- the session that follows one, or itself where none does
abbrev pub session_behind : ℕ → Option Following → ℕ
session_behind session None = session
session_behind session (Some f) = f.session

abbrev pub next_session : Direction → ℕ
next_session d = session_behind d.session d.following

-- octets of a direction are settled: its session stays, or the one that follows begins
pub record Goes (before after : Direction) : Type 0 where
  pub same : after ≡ record before { framer = after.framer; session = after.session; following = after.following }
  pub turn : ((after.session ≡ before.session) × (after.following ≡ before.following))
      ⊎ ((after.session ≡ next_session before) × (after.following ≡ None))

-- where the next PDU begins in the octets that follow, if one does: behind the one that is under way, or, where the length of that can't
-- be, where one is seen to begin
abbrev pub FindsNext : Framer → List ℕ → Option ℕ → Type 0
FindsNext framer octets place =
    (framer ≡ Broken → IsFirstPdu octets place)
    × ((rest : List ℕ) → IsUnderWay rest framer → (framer ≡ Broken → ⊥) → IsNextPdu rest octets place)

-- behind octets that were settled others follow: a PDU begins in them behind so many, and what stands from it on is framed anew
pub record Begins (settled octets : List ℕ) (skipped : ℕ) (after : Framer) (place : ℕ) : Type 0 where
  pub framer : Framer
  pub framed : IsFramed (settled ++ take skipped octets) framer
  pub behind : ℕ
  pub finds : FindsNext framer (drop skipped octets) (Some behind)
  pub place_is : place ≡ skipped + behind
  pub within : place < length octets
  pub anew : IsFramed (drop place octets) after

-- none begins in them
pub record BeginsNone (settled octets : List ℕ) (skipped : ℕ) (after : Framer) : Type 0 where
  pub framer : Framer
  pub framed : IsFramed (settled ++ take skipped octets) framer
  pub finds : FindsNext framer (drop skipped octets) None
  pub all : IsFramed (settled ++ octets) after

abbrev pub BeginsAt : List ℕ → List ℕ → ℕ → Framer → Option ℕ → Type 0
BeginsAt settled octets skipped after None = BeginsNone settled octets skipped after
BeginsAt settled octets skipped after (Some place) = Begins settled octets skipped after place

-- octets at a place of a direction, behind those of its session that were settled, are of its session up to the first PDU that begins at
-- the place of the session that follows, or behind it; that one and what stands behind it are of that session. So many are of its own
abbrev pub DealsBy : Option Following → List ℕ → Direction → Direction → ℕ → List ℕ → ℕ → Type 0
DealsBy None settled before after place octets count =
    (count ≡ length octets) × IsFramed (settled ++ octets) after.framer × (after ≡ record before { framer = after.framer })
DealsBy (Some f) settled before after place octets count =
    ((count ≡ length octets) × BeginsNone settled octets (min (f.place - place) (length octets)) after.framer
    × (after ≡ record before { framer = after.framer }))
    ⊎ (Begins settled octets (min (f.place - place) (length octets)) after.framer count
    × (after ≡ record before { framer = after.framer; session = f.session; following = None }))

abbrev pub Deals : Direction → Direction → ℕ → List ℕ → ℕ → Type 0
Deals before after place octets count =
    (settled : List ℕ) → IsFramed settled before.framer → DealsBy before.following settled before after place octets count
