-- What becomes of the octets of a direction: the parts of its stream, and the rows that they are.
use Rattle.std.specs.Prelude.{◌≡◌, ◌≢◌, ℕ, ◌+◌, ◌*◌, ◌<◌, max, true, false, List, [], ◌∷◌, ◌++◌, length, map, replicate, slice_get, None}
use Rattle.std.specs.List.{AllByRecursion}
use Rattle.smq_reassembly.specs.Moment.{IsGiven, Start}
use Rattle.smq_reassembly.specs.Octet.{Octet}
use Rattle.smq_reassembly.specs.Piece as piece
use Rattle.smq_reassembly.specs.Piece.{Piece}
use Rattle.smq_reassembly.specs.Stream.{IsGap}
use Rattle.smq_streams.specs.Calls.{IsBeginning, Part, end_of, octets_in}
use Rattle.smq_streams.specs.Direction as stream
use Rattle.smq_streams.specs.Framing.{IsFramed}
use Rattle.smq_capture.specs.declared.direction.Direction.{Direction}
use Rattle.smq_capture.specs.declared.flow.AtOnce.{AtOnce}
use Rattle.smq_capture.specs.declared.flow.Came.{Came}
use Rattle.smq_capture.specs.declared.flow.Came.TheVariants as came
use Rattle.smq_capture.specs.declared.flow.Flow.{Flow}
use Rattle.smq_capture.specs.declared.side.Side.{Side}
use Rattle.smq_capture.specs.declared.side.Side.TheVariants.{Client, Centre}
use Rattle.smq_capture.specs.Rows.{Row}

-- a part that ended at a gap: the pieces that had come by then, and the place at which the next part starts
pub record Ended : Type 0 where
  pub pieces : List Piece
  pub part : Part
  pub until : ℕ

-- its octets are a beginning of the stream of those pieces, and none of these has an octet from there on up to the next part
pub record IsEnded (e : Ended) : Type 0 where
  pub begins : IsBeginning e.pieces e.part.start (octets_in e.part)
  pub gap : IsGap e.pieces (end_of e.part) e.until

-- what came of a direction: the pieces, the parts that ended, the last of them first, and the part that goes on
pub record History : Type 0 where
  pub pieces : List Piece
  pub ended : List Ended
  pub part : Part

-- the first part starts at the first octet, and each other one where the gap before it ends
abbrev pub AreParts : List Piece → ℕ → List Ended → Type 0
AreParts pieces place [] = place ≡ 0
AreParts pieces place (e ∷ es) =
    (e.until ≡ place) × ((more : List Piece) × (e.pieces ++ more ≡ pieces)) × IsEnded e
    × AreParts e.pieces e.part.start.place es

-- the octets that became rows, in order
abbrev pub put_in : List Ended → List Octet
put_in [] = []
put_in (e ∷ es) = put_in es ++ e.part.given

abbrev pub all_put : History → List Octet
all_put s = put_in s.ended ++ s.part.given

-- before anything came
abbrev pub nothing : History
nothing = record {
  pieces = [];
  ended = [];
  part = record { start = record { place = 0; moment = 0 }; passed = []; given = [] };
}

-- a piece more came; octets more became rows; or were passed over; or the next part begins behind a gap
abbrev pub with_piece : Piece → History → History
with_piece piece s = record s { pieces = s.pieces ++ piece ∷ [] }

abbrev pub with_put : List Octet → History → History
with_put more s = record s { part = record s.part { given = s.part.given ++ more } }

abbrev pub with_passed : List Octet → History → History
with_passed more s = record s { part = record s.part { passed = s.part.passed ++ more } }

abbrev pub with_gap : ℕ → ℕ → History → History
with_gap until moment s = record s {
  ended = (record { pieces = s.pieces; part = s.part; until = until }) ∷ s.ended;
  part = record { start = record { place = until; moment = moment }; passed = []; given = [] };
}

-- a stream that goes on has this history: while a PDU is looked for no octet of the part became a row, and before its first number is
-- known nothing came
pub record Tells (s : History) (d : stream.Direction) : Type 0 where
  pub gives : stream.Gives s.pieces s.part.start (octets_in s.part) d
  pub parts : AreParts s.pieces s.part.start.place s.ended
  pub searches : d.is_searching ≡ true → s.part.given ≡ []
  pub fresh : d.first ≡ None → s.pieces ≡ []
  pub goes : d.is_stopped ≡ false

-- where no PDU is looked for all that came of a part is given, up to the first octet that didn't come
abbrev pub IsThrough : stream.Direction → Type 0
IsThrough d =
    d.is_searching ≡ false → (pieces : List Piece) (start : Start) (given : List Octet) → stream.Gives pieces start given d
    → IsGiven pieces start given

-- octets, each with a moment: with that of its packet, raised to that of the octet before
abbrev pub raised : ℕ → List Octet → List (ℕ × ℕ)
raised moment [] = []
raised moment (o ∷ os) = (o.value, max moment o.packet.moment) ∷ raised (max moment o.packet.moment) os

abbrev pub last_raised : ℕ → List Octet → ℕ
last_raised moment [] = moment
last_raised moment (o ∷ os) = last_raised (max moment o.packet.moment) os

-- the octets of an end in rows, each with the moment of its row
abbrev pub at_moment : ℕ → List ℕ → List (ℕ × ℕ)
at_moment moment octets = map (λ o. (o, moment)) octets

abbrev pub timed_from : Side → Side → ℕ → List ℕ → List (ℕ × ℕ)
timed_from Client Client moment octets = at_moment moment octets
timed_from Centre Centre moment octets = at_moment moment octets
timed_from Client Centre moment octets = []
timed_from Centre Client moment octets = []

abbrev pub timed_of : Side → List Row → List (ℕ × ℕ)
timed_of side [] = []
timed_of side (r ∷ rs) = timed_from side r.sender r.moment r.octets ++ timed_of side rs

-- a direction has a history, and its octets that became rows are those of the rows that were written and those that wait, one after the
-- other, each with its moment
pub record Flows (s : History) (written : List Row) (side : Side) (d : Direction) (rows : List Row) : Type 0 where
  pub tells : Tells s d.stream
  pub rows_are : timed_of side (written ++ rows) ≡ raised 0 (all_put s)
  pub moment : d.moment ≡ last_raised 0 (all_put s)

-- rows that an end sent follow others
pub record Puts (side : Side) (before after : List Row) : Type 0 where
  pub more : List Row
  pub after_is : after ≡ before ++ more
  pub sent : AllByRecursion (λ row. row.sender ≡ side) more

-- a row is written at once, of which all octets are of one session
pub record IsAtOnce (side : Side) (given : AtOnce) (row : Row) : Type 0 where
  pub sender : row.sender ≡ side
  pub moment : row.moment ≡ given.moment
  pub octets : row.octets ≡ given.octets.now
  pub sessions : row.sessions ≡ replicate (length given.octets.now) given.session

-- what a segment makes of a direction that has a history, and another with the segment's piece: it ends too far ahead; or its octets came,
-- and all that follow are rows then, or one is written at once
abbrev pub Comes : Type 0 → History → History → List Row → Side → Came → Direction → List Row → Type 0
Comes far before s written side (came.AtOnce given) d rows =
    (far → ⊥) × (more : List Octet) × (row : Row) × IsAtOnce side given row × (given.session ≡ d.session)
    × Flows (with_put more s) (written ++ row ∷ []) side d rows
Comes far before s written side came.Taken d rows =
    (far → ⊥) × (more : List Octet) × Flows (with_put more s) written side d rows × IsThrough d.stream
Comes far before s written side came.Outside d rows = far × Flows before written side d rows

-- octets are written at once only where they are free to: no row waits before them, and no other session begins in their direction
abbrev pub IsFree : Type 0 → Came → Direction → List Row → Type 0
IsFree free (came.AtOnce given) d rows = free × (rows ≡ []) × (d.following ≡ None)
IsFree free came.Taken d rows = Unit {0}
IsFree free came.Outside d rows = Unit {0}

-- of a direction changes only its stream and the moment of its last row, and which packets were early
abbrev pub OnlyPuts : Direction → Direction → Type 0
OnlyPuts before after = after ≡ record before { stream = after.stream; moment = after.moment; raised = after.raised }

-- and, where octets are written at once, the PDU under way behind them
abbrev pub OnlyFrames : Came → Direction → Direction → Type 0
OnlyFrames (came.AtOnce given) before after =
    ((settled : List ℕ) → IsFramed settled before.framer → IsFramed (settled ++ given.octets.now) after.framer)
    × (after ≡ record before { stream = after.stream; moment = after.moment; raised = after.raised; framer = after.framer })
OnlyFrames came.Taken before after = OnlyPuts before after
OnlyFrames came.Outside before after = OnlyPuts before after

-- the direction of an end
abbrev pub direction_of : Side → Flow → Direction
direction_of Client flow = flow.client
direction_of Centre flow = flow.centre

abbrev pub stream_of : Side → Flow → stream.Direction
stream_of side flow = (direction_of side flow).stream

-- what a stream takes in memory: the pieces that wait and their octets, those that are held or were looked at, and what is noted
abbrev pub weight_of : stream.Direction → ℕ
weight_of d = 128 * length d.order.waiting + piece.octets_in d.order.waiting + (d.held.looked + length d.held.octets) + 16 * length d.notes

-- a flow in which that of one end is another; or only its stream is
abbrev pub with_direction : Side → Direction → Flow → Flow
with_direction Client d flow = record flow { client = d }
with_direction Centre d flow = record flow { centre = d }

abbrev pub with_stream : Side → stream.Direction → Flow → Flow
with_stream side s flow = with_direction side (record (direction_of side flow) { stream = s }) flow

abbrev pub FlowsIn : History → List Row → Side → Flow → Type 0
FlowsIn s written side flow = Flows s written side (direction_of side flow) flow.rows

-- no direction's history changes, and no octet in its rows
abbrev pub Stays : Flow → Flow → Type 0
Stays before after = (s : History) (written : List Row) (side : Side) → FlowsIn s written side before → FlowsIn s written side after

-- that of the other end
abbrev pub OtherStays : Side → Flow → Flow → Type 0
OtherStays one before after =
    (s : History) (written : List Row) (side : Side) → side ≢ one → FlowsIn s written side before → FlowsIn s written side after
