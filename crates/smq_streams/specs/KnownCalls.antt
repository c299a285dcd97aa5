-- What the definitions say of known calls.
use Rattle.std.specs.Prelude.{◌≡◌, ℕ, true, false, List, [], ◌∷◌, ◌++◌, Some, None}
use Rattle.smq_reassembly.specs.declared.packet.Packet.{Packet}
use Rattle.smq_reassembly.specs.Octet.{Octet, octets_of}
use Rattle.smq_reassembly.specs.Moment.{Start}
use Rattle.smq_reassembly.specs.Piece.{Piece}
use Rattle.smq_reassembly.specs.State.{State}
use Rattle.smq_streams.specs.declared.stream.Missing.{Missing}
use Rattle.smq_streams.specs.Calls.{AllFit, AreInOrder, AreStreams, Become, Call, Fits, IsBeginning, IsNew, Part, with_calls, nothing, pieces_before}
use Rattle.smq_streams.specs.Calls.Call.{Added, Begun, Gave, GaveNone, Lent, Other, Searched, Skipped, Stopped}
use Rattle.smq_streams.specs.Direction.{Direction}
use Rattle.smq_streams.specs.Known.{enquire_link, response}
use Rattle.smq_streams.specs.Search.{Search}

-- two packets
abbrev pub first_packet : Packet
first_packet = record { number = 1; moment = 100 }

abbrev pub second_packet : Packet
second_packet = record { number = 2; moment = 200 }

-- octets at a place
abbrev pub piece_at : ℕ → List Octet → Piece
piece_at place octets = record { at = place; octets = octets }

-- three octets; and behind a gap of two one that begins no PDU, and two PDUs
abbrev pub three : List Octet
three = octets_of first_packet true (10 ∷ 11 ∷ 12 ∷ [])

abbrev pub behind_gap : List Octet
behind_gap = octets_of second_packet true (7 ∷ enquire_link ++ response 0)

abbrev pub pdus : List Octet
pdus = octets_of second_packet false (enquire_link ++ response 0)

abbrev pub missing : ℕ → ℕ → Missing
missing from until = record { from = from; until = until }

-- the direction begins; the three are lent, those behind the gap wait, and a segment is too far ahead; then the gap is given up, one octet
-- behind it is passed over, the PDUs are given, and it is stopped
abbrev pub calls : List Call
calls =
    Begun 5 false ∷ Lent (piece_at 0 three) three ∷ Added (piece_at 5 behind_gap) true ∷ Added (piece_at 20000000 three) false
    ∷ GaveNone ∷ Skipped (missing 3 5) ∷ Searched false behind_gap 1 true ∷ Gave 6 pdus ∷ Stopped 38 ∷ Other ∷ []

-- the direction before and after them: where its next octet stands, with the packet of the last one, and what waits; and what it holds
abbrev pub state_at : ℕ → Packet → List Piece → State
state_at next last waiting = record { next = next; last = last; waiting = waiting }

abbrev pub no_packet : ℕ → Packet
no_packet moment = record { number = 0; moment = moment }

abbrev pub held_at : ℕ → List Octet → ℕ → Search
held_at place octets passed = record { place = place; octets = octets; passed = passed; looked = passed }

abbrev pub unknown : Direction
unknown = record {
  first = None;
  order = state_at 0 (no_packet 0) [];
  extent = record { end = 0; top = 0; reached = 0 };
  held = held_at 0 [] 0;
  opened = None;
  notes = [];
  is_searching = false;
  is_behind_gap = false;
  is_stopped = false;
}

abbrev pub finished : Direction
finished = record {
  first = Some 5;
  order = state_at 38 second_packet [];
  extent = record { end = 38; top = 38; reached = 0 };
  held = held_at 38 [] 1;
  opened = None;
  notes = [];
  is_searching = false;
  is_behind_gap = true;
  is_stopped = true;
}

-- where a part begins
abbrev pub start_at : ℕ → ℕ → Start
start_at place moment = record { place = place; moment = moment }

abbrev pub before_gap : Part
before_gap = record { start = start_at 0 0; passed = []; given = three }

abbrev pub after_gap : Part
after_gap = record {
  start = start_at 5 100;
  passed = octets_of second_packet true (7 ∷ []);
  given = pdus;
}

abbrev pub came : List Piece
came = piece_at 0 three ∷ piece_at 5 behind_gap ∷ []

pub record KnownCalls : Type 0 where
  -- so it may be with a direction
  pub new : IsNew unknown
  pub become : Become nothing calls unknown finished
  -- the pieces that came, and the two parts: the second is given no earlier than the last octet of the first
  pub told : with_calls calls nothing ≡ (record { came = came; pieces = came; ended = before_gap ∷ []; part = after_gap })
  pub fit : AllFit nothing calls
  pub streams : AreStreams (with_calls calls nothing)
  -- after a stop what stands before its place counts
  pub cut : pieces_before 4 (piece_at 0 three ∷ piece_at 2 three ∷ piece_at 7 three ∷ [])
      ≡ piece_at 0 three ∷ piece_at 2 (octets_of first_packet true (10 ∷ 11 ∷ [])) ∷ piece_at 7 [] ∷ []
  -- two octets are a beginning of three; no octet is left out, comes twice, or stands where no piece has one
  pub two : IsBeginning came (start_at 0 0) (octets_of first_packet true (10 ∷ 11 ∷ []))
  pub left_out : IsBeginning came (start_at 0 0) (octets_of first_packet true (10 ∷ 12 ∷ [])) → ⊥
  pub twice : IsBeginning came (start_at 0 0) (octets_of first_packet true (10 ∷ 10 ∷ [])) → ⊥
  pub beyond : IsBeginning came (start_at 0 0) (octets_of first_packet true (10 ∷ 11 ∷ 12 ∷ 7 ∷ [])) → ⊥
  -- nor is an octet given with an earlier packet than those before it
  pub early : IsBeginning came (start_at 5 0) (octets_of first_packet true (7 ∷ [])) → ⊥
  -- a gap ends at the first octet that came, and not before it or behind it
  pub no_gap : Fits (with_calls (Lent (piece_at 0 three) three ∷ Added (piece_at 5 behind_gap) true ∷ []) nothing) (Skipped (missing 3 4)) → ⊥
  pub no_longer : Fits (with_calls (Lent (piece_at 0 three) three ∷ Added (piece_at 5 behind_gap) true ∷ []) nothing) (Skipped (missing 3 6)) → ⊥
  -- the octets of the second part have their place
  pub no_place : Fits (with_calls (Skipped (missing 0 5) ∷ []) nothing) (Gave 0 pdus) → ⊥
  -- two parts share no place
  pub share : AreInOrder (record before_gap { start = start_at 2 0 } ∷ before_gap ∷ []) → ⊥
