-- How a segment is read, head by head.
use Rattle.std.specs.Prelude.{◌≡◌, ℕ, zero, suc, ◌<◌, ◌⊎◌, true, false, List, Result, Ok, Err}
use Rattle.smq_packets.specs.Segments.{SegmentValue, behind_of, carried_by, is_tcp, tcp_of}
use Rattle.smq_packets.specs.declared.layer.Layer.{Layer}
use Rattle.smq_packets.specs.declared.layer.Unread.{Unread}
use Rattle.smq_packets.specs.declared.layer.Unread.TheVariants.{TooDeep}

-- a layer is so many heads behind another, each of which leads to the next
abbrev pub IsBehind : ℕ → List ℕ → Layer → Layer → Type 0
IsBehind zero frame first l = l ≡ first
IsBehind (suc n) frame first l = (next : Layer) × (behind_of frame first ≡ Ok next) × IsBehind n frame next l

-- a head so many behind the first leads no further
pub record LeadsNoFurther (frame : List ℕ) (l : Layer) (result : Result SegmentValue Unread) : Type 0 where
  pub why : Unread
  pub stops : behind_of frame l ≡ Err why
  pub is : result ≡ Err why

-- A reading ends with TCP's head, with one that leads no further, or with as many heads as are read.
abbrev pub EndsIn : ℕ → ℕ → List ℕ → Layer → Result SegmentValue Unread → Type 0
EndsIn most n frame l result =
    ((n < most) × (is_tcp l.head ≡ true) × (result ≡ tcp_of frame l))
    ⊎ (((n < most) × (is_tcp l.head ≡ false) × LeadsNoFurther frame l result)
    ⊎ ((n ≡ most) × (result ≡ Err TooDeep)))

-- what is read of a frame behind a head, of which at most so many are passed
pub record IsRead (most : ℕ) (frame : List ℕ) (first : Layer) (result : Result SegmentValue Unread) : Type 0 where
  pub passed : ℕ
  pub last : Layer
  pub behind : IsBehind passed frame first last
  pub ends : EndsIn most passed frame last result

-- exactly one result stands in the relation: what is computed
abbrev pub HasOneReading : List ℕ → Layer → Type 0
HasOneReading frame first =
    IsRead 32 frame first (carried_by 32 frame first)
    × ((result : Result SegmentValue Unread) → IsRead 32 frame first result → result ≡ carried_by 32 frame first)
