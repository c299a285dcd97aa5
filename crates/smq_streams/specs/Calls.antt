-- A direction as calls take its segments and give its octets: the pieces that came, and the parts between gaps that were given up.
use Rattle.std.specs.Prelude.{◌≡◌, ℕ, ◌+◌, ◌-◌, ◌<◌, ◌≤◌, Bool, true, false, List, [], ◌∷◌, ◌++◌, length, map, take, drop, slice_get, Some, None}
use Rattle.std.specs.List.{AllByRecursion}
use Rattle.smq_reassembly.specs.declared.packet.Packet.{Packet}
use Rattle.smq_reassembly.specs.declared.sequence.Place.{Place}
use Rattle.smq_reassembly.specs.Moment.{IsGiven, Start, before_first, given_after, moment_before}
use Rattle.smq_reassembly.specs.Octet.{Octet}
use Rattle.smq_reassembly.specs.Piece.{Piece, first_octet}
use Rattle.smq_reassembly.specs.Segment.{piece_of}
use Rattle.smq_reassembly.specs.Sequence.{IsPlace}
use Rattle.smq_reassembly.specs.Stream.{IsGap}
use Rattle.smq_streams.specs.declared.stream.Missing.{Missing}
use Rattle.smq_streams.specs.Direction.{Adds, Direction, Gives, IsLent, Searches, Skips}
use Rattle.smq_streams.specs.Search.{BeginNone, Stops}

-- a call that memory sufficed for, and what it gave: it began the direction; lent octets of a segment; added a segment, which was taken or
-- ended too far ahead; gave octets, with the place of the first, or none, as none follow; looked for a PDU among octets that follow, passed
-- so many of them over, and found one or none; skipped a gap; stopped the direction, at the place of the next octet; or none of these
pub data Call : Type 0 where
  Begun : ℕ → Bool → Call
  Lent : Piece → List Octet → Call
  Added : Piece → Bool → Call
  Gave : ℕ → List Octet → Call
  GaveNone : Call
  Searched : Bool → List Octet → ℕ → Bool → Call
  Skipped : Missing → Call
  Stopped : ℕ → Call
  Other : Call

-- ---- what calls tell

-- a part of a direction: where it begins, the octets that were passed over there, and those that were given behind them
pub record Part : Type 0 where
  pub start : Start
  pub passed : List Octet
  pub given : List Octet

-- both, one after the other, and the place behind them
abbrev pub octets_in : Part → List Octet
octets_in part = part.passed ++ part.given

abbrev pub end_of : Part → ℕ
end_of part = part.start.place + length (octets_in part)

-- the part that begins at a place behind another, at the moment of its last octet
abbrev pub part_behind : Part → ℕ → Part
part_behind part place = record {
  start = record {
    place = place;
    moment = moment_before part.start.moment (octets_in part) (length (octets_in part));
  };
  passed = [];
  given = [];
}

-- of a piece, and of pieces, what stands before a place
abbrev pub piece_before : ℕ → Piece → Piece
piece_before place p = record { at = p.at; octets = take (place - p.at) p.octets }

abbrev pub pieces_before : ℕ → List Piece → List Piece
pieces_before place pieces = map (λ p. piece_before place p) pieces

-- the pieces that came, in order; what counts of them, which is all up to a stop; the parts that ended, the last one first; and the one
-- under way
pub record Course : Type 0 where
  pub came : List Piece
  pub pieces : List Piece
  pub ended : List Part
  pub part : Part

-- before the first call
abbrev pub nothing : Course
nothing = record {
  came = [];
  pieces = [];
  ended = [];
  part = record { start = record { place = 0; moment = 0 }; passed = []; given = [] };
}

abbrev pub with_piece : Piece → Course → Course
with_piece piece c = record c { came = c.came ++ piece ∷ []; pieces = c.pieces ++ piece ∷ [] }

abbrev pub with_octets : List Octet → Course → Course
with_octets octets c = record c { part = record c.part { given = c.part.given ++ octets } }

-- what a call adds
abbrev pub with_call : Call → Course → Course
with_call (Begun first is_searching) c = c
with_call (Lent piece octets) c = with_octets octets (with_piece piece c)
with_call (Added piece true) c = with_piece piece c
with_call (Added piece false) c = c
with_call (Gave place octets) c = with_octets octets c
with_call GaveNone c = c
with_call (Searched is_end octets count is_found) c =
    record c { part = record c.part { passed = c.part.passed ++ take count octets } }
with_call (Skipped missing) c = record c { ended = c.part ∷ c.ended; part = part_behind c.part missing.until }
with_call (Stopped place) c = record c { pieces = pieces_before place c.pieces }
with_call Other c = c

abbrev pub with_calls : List Call → Course → Course
with_calls [] c = c
with_calls (call ∷ calls) c = with_calls calls (with_call call c)

-- ---- what becomes of a direction

-- it is new
pub record IsNew (d : Direction) : Type 0 where
  pub gives : Gives [] (record { place = 0; moment = 0 }) [] d
  pub first : d.first ≡ None
  pub searches : d.is_searching ≡ false

-- a piece is a segment's: its first octet has its sequence number, and of the places with that number it is the nearest to the next octet's
pub record IsPiece (d : Direction) (piece : Piece) : Type 0 where
  pub first : ℕ
  pub sequence : ℕ
  pub place : Place
  pub packet : Packet
  pub octets : List ℕ
  pub known : d.first ≡ Some first
  pub stands : IsPlace first d.order.next sequence place
  pub is : piece ≡ piece_of place d.order.next packet octets

-- of the pieces that count the last part was given, or passed over, up to what the direction holds
abbrev pub Tells : Course → Direction → Type 0
Tells c d = Gives c.pieces c.part.start (octets_in c.part) d

-- what a call does, as its contract says it of what was told before. Nobody looks for a PDU but while octets are passed over, or skips a gap
-- while octets are held
abbrev pub Does : Course → Call → Direction → Direction → Type 0
Does c (Begun first is_searching) before after =
    (before.first ≡ None) × (after ≡ record before { first = Some first; is_searching = is_searching })
Does c (Lent piece octets) before after =
    (s : IsPiece before piece)
    × (Tells c before → IsLent before s.place s.packet s.octets
    × Gives (c.pieces ++ piece ∷ []) c.part.start (octets_in c.part ++ octets) after)
    × (after ≡ record before { order = after.order; extent = after.extent })
Does c (Added piece taken) before after =
    IsPiece before piece × (before.is_stopped ≡ false)
    × (Tells c before → Adds c.pieces c.part.start (octets_in c.part) piece before after taken)
    × (after ≡ record before { order = after.order; extent = after.extent; held = after.held })
Does c (Gave place octets) before after =
    (before.is_searching ≡ false)
    × (Tells c before → (place ≡ end_of c.part) × Gives c.pieces c.part.start (octets_in c.part ++ octets) after)
    × (after ≡ record before { order = after.order; held = after.held })
Does c GaveNone before after =
    (before.is_searching ≡ false) × (Tells c before → IsGiven c.pieces c.part.start (octets_in c.part)) × (after ≡ before)
Does c (Searched is_end octets count is_found) before after =
    (before.is_searching ≡ true)
    × (Tells c before → (s : Searches is_end c.pieces c.part.start (octets_in c.part) before after is_found)
    × (s.held ≡ octets) × (s.count ≡ count))
    × (after ≡ record before { order = after.order; held = after.held; is_searching = after.is_searching })
Does c (Skipped missing) before after =
    (before.held.octets ≡ []) × (Tells c before → Skips c.pieces before after missing)
    × (after ≡ record before { order = after.order; is_searching = true; is_behind_gap = true })
Does c (Stopped place) before after =
    (place ≡ before.order.next)
    × (after ≡ record before {
      order = record before.order { waiting = [] };
      opened = None;
      notes = [];
      is_stopped = true;
    })
Does c Other before after =
    after ≡ record before {
      extent = after.extent;
      held = record before.held { passed = after.held.passed; looked = after.held.looked };
      opened = after.opened;
      notes = after.notes;
    }

-- what a direction becomes by calls
abbrev pub Become : Course → List Call → Direction → Direction → Type 0
Become c [] before after = after ≡ before
Become c (call ∷ calls) before after =
    (middle : Direction) × Does c call before middle × Become (with_call call c) calls middle after

-- ---- the law

-- octets are a beginning of the stream of pieces: each is the first copy that came, given with the packet at which it and all before it
-- had come
pub record IsBeginning (pieces : List Piece) (start : Start) (octets : List Octet) : Type 0 where
  pub text : List Octet
  pub each : (n : ℕ) → n < length text → slice_get text n ≡ first_octet pieces (start.place + n)
  pub moments : octets ≡ given_after (before_first start) text

-- a part begins where the one before it ends, or behind that place
abbrev pub StandsBehind : Part → List Part → Type 0
StandsBehind part [] = Unit {0}
StandsBehind part (p ∷ ps) = end_of p ≤ part.start.place

-- so it is with each of them, the last one first
abbrev pub AreInOrder : List Part → Type 0
AreInOrder [] = Unit {0}
AreInOrder (p ∷ ps) = StandsBehind p ps × AreInOrder ps

-- each part is a beginning of the stream of all pieces that came, from its start on, and no place is in two parts
abbrev pub AreStreams : Course → Type 0
AreStreams c =
    AllByRecursion (λ (part : Part). IsBeginning c.came part.start (octets_in part)) (c.part ∷ c.ended)
    × AreInOrder (c.part ∷ c.ended)

-- what a call gave fits what was told before: octets stand where the part ended so far; where none follow, the part is the whole stream of
-- the pieces; octets are passed over before any are given, begin no PDU, as all that had come of the part show, and end where one is seen to
-- begin, where more octets decide, or with the last; no piece has an octet of a gap, from the end of the part on, but one has the octet
-- behind it
abbrev pub Fits : Course → Call → Type 0
Fits c (Begun first is_searching) = Unit {0}
Fits c (Lent piece octets) = piece.at ≡ end_of c.part
Fits c (Added piece taken) = Unit {0}
Fits c (Gave place octets) = place ≡ end_of c.part
Fits c GaveNone = IsGiven c.pieces c.part.start (octets_in c.part)
Fits c (Searched is_end octets count is_found) =
    (c.part.given ≡ []) × IsGiven c.pieces c.part.start (c.part.passed ++ octets) × BeginNone is_end octets count
    × Stops is_end (drop count octets) is_found
Fits c (Skipped missing) = (missing.from ≡ end_of c.part) × IsGap c.pieces missing.from missing.until
Fits c (Stopped place) = end_of c.part ≤ place
Fits c Other = Unit {0}

-- so it is with each call
abbrev pub AllFit : Course → List Call → Type 0
AllFit c [] = Unit {0}
AllFit c (call ∷ calls) = Fits c call × AllFit (with_call call c) calls
