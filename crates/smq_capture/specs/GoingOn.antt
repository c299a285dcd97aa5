-- Where the next session of a connection begins: in the direction with a gap with the first PDU that is seen to begin behind it, and in the
-- other direction with the first PDU that begins behind all octets that packets before the one of that PDU have.
use Rattle.std.specs.Prelude.{◌≡◌, ℕ, ◌⊎◌, Bool, true, false, List, [], slice_get, MatchOption, Some, None}
use Rattle.smq_reassembly.specs.Moment.{Start}
use Rattle.smq_reassembly.specs.Octet.{Octet}
use Rattle.smq_reassembly.specs.Piece.{Piece}
use Rattle.smq_streams.specs.Direction as stream
use Rattle.smq_streams.specs.Framing.{IsFramed}
use Rattle.smq_capture.specs.declared.flow.Flow.{Flow}
use Rattle.smq_capture.specs.declared.side.Side.{Side}
use Rattle.smq_capture.specs.declared.side.Side.TheVariants.{Client, Centre}
use Rattle.smq_capture.specs.declared.signs.Both.{Both}
use Rattle.smq_capture.specs.declared.signs.Signs.{Signs}
use Rattle.smq_capture.specs.Flow.{FlowsIn, History, OnlyPuts, direction_of, stream_of, with_put}
use Rattle.smq_capture.specs.Rows.{AreSettledTo, Row, SomeEndsIn}
use Rattle.smq_capture.specs.Sessions.{Goes}
use Rattle.smq_capture.specs.Tops.{Brought, IsWatched, noted_before, top_before, top_of}

-- the other end
abbrev pub other_of : Side → Side
other_of Client = Centre
other_of Centre = Client

-- what is known of the direction of an end
abbrev pub signs_of : Side → Both → Signs
signs_of Client both = both.client
signs_of Centre both = both.centre

-- the last session has an octet, or the last octet that is settled now of some row is one of it
abbrev pub HasOctets : Bool → ℕ → List Row → List Row → Type 0
HasOctets has_rows last before after = (has_rows ≡ true) ⊎ SomeEndsIn last before after

-- the place in a direction that the notes of its packets tell of one
abbrev pub place_in : Side → ℕ → Flow → Both → ℕ
place_in side number flow signs = noted_before number (stream_of side flow).extent.top (signs_of side signs).tops

-- a session follows in a direction at that place: behind all octets that packets before that one have, where packets came in order and all
-- from that one on are noted that have to be
pub record FollowsBehind (side : Side) (number : ℕ) (before : Flow) (signs : Both) (session : ℕ) (after : Flow) : Type 0 where
  pub follows :
      (direction_of side after).following ≡ Some (record { session = session; place = place_in side number before signs })
  pub behind : (packets : List Brought) → IsWatched number packets (signs_of side signs).tops
      → (stream_of side before).extent.top ≡ top_of packets → place_in side number before signs ≡ top_before number packets

-- or none follows anew there, and the last session goes on
pub record GoesOn (side : Side) (before : Flow) (last : ℕ) (after : Flow) (session : ℕ) : Type 0 where
  pub same : session ≡ last
  pub goes : Goes (direction_of side before) (direction_of side after)

-- behind a gap of a direction its octets that wait are settled first. Then the last session ends, if it has an octet by now: the next one
-- follows in the other direction
pub record BeginsNext (side : Side) (number : ℕ) (has_rows : Bool) (last : ℕ) (before : Flow) (signs : Both) (next : ℕ) (after : Flow)
    (session : ℕ) : Type 0 where
  pub rows : List Row
  pub settled : AreSettledTo None side before.rows rows
  pub ends : HasOctets has_rows last before.rows rows ⊎ SomeEndsIn last rows after.rows
      → (session ≡ next) × FollowsBehind (other_of side) number before signs session after
  pub goes_on : (HasOctets has_rows last before.rows rows ⊎ SomeEndsIn last rows after.rows → ⊥)
      → GoesOn (other_of side) before last after session

-- a direction goes on with its next octets, which a packet brought: they begin a session of it, framed anew. Behind a gap that may be the
-- next one; else it is the last, and the other direction stays
pub record BeginsWith (side : Side) (number : ℕ) (has_rows : Bool) (last : ℕ) (before : Flow) (signs : Both) (next : ℕ) (after : Flow)
    (session : ℕ) : Type 0 where
  pub own : direction_of side after ≡ record (direction_of side before) {
    framer = (direction_of side after).framer;
    session = session;
    following = None;
  }
  pub framed : IsFramed [] (direction_of side after).framer
  pub behind : (stream_of side before).is_behind_gap ≡ true → BeginsNext side number has_rows last before signs next after session
  pub within : (stream_of side before).is_behind_gap ≡ false
      → (session ≡ last) × (direction_of (other_of side) after ≡ direction_of (other_of side) before)

-- a PDU is seen to begin in a direction at a place: what stands before it is passed over, and its first octet is one of a packet
pub record IsFoundAt (side : Side) (is_end : Bool) (before : Flow) (place number : ℕ) (found : Flow) : Type 0 where
  pub searches : (pieces : List Piece) (start : Start) (given : List Octet) → stream.Gives pieces start given (stream_of side before)
      → stream.Searches is_end pieces start given (stream_of side before) (stream_of side found) true
  pub place_is : place ≡ (stream_of side found).held.place
  pub number_is : MatchOption (slice_get (stream_of side found).held.octets 0) (number ≡ 0) (λ (o : Octet). number ≡ o.packet.number)

-- none is looked for; or none is seen to begin, and what begins none is passed over
pub record FindsNone (side : Side) (is_end : Bool) (before after : Flow) : Type 0 where
  pub still : (stream_of side before).is_searching ≡ false → after ≡ before
  pub searches : (stream_of side before).is_searching ≡ true → (pieces : List Piece) (start : Start) (given : List Octet)
      → stream.Gives pieces start given (stream_of side before)
      → stream.Searches is_end pieces start given (stream_of side before) (stream_of side after) false

-- a connection goes on with that PDU: a session of the direction begins with it, and of what follows its octets become rows
pub record GoesOnAt (side : Side) (is_end has_rows : Bool) (last : ℕ) (before : Flow) (signs : Both) (next place : ℕ) (after : Flow)
    (session : ℕ) : Type 0 where
  pub found : Flow
  pub number : ℕ
  pub begun : Flow
  pub finds : IsFoundAt side is_end before place number found
  pub begins : BeginsWith side number has_rows last found signs next begun session
  pub puts : (s : History) (written : List Row) → FlowsIn s written side begun
      → (more : List Octet) × FlowsIn (with_put more s) written side after
  pub keeps : OnlyPuts (direction_of side begun) (direction_of side after)
