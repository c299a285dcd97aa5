-- What PDUs more of a session put into the notes and take out of them, list by list.
use Rattle.std.specs.Prelude.{List, [], ◌∷◌, ◌++◌, map, if◌then◌else◌, Option, Some, None, option_to_list}
use Rattle.smq_kit.specs.declared.place.Dir.{Dir}
use Rattle.smq_kit.specs.declared.place.Dir.TheVariants.{FromClient, FromCentre}
use Rattle.smq_frame.specs.Tail.{TailValue}
use Rattle.smq_pdu.specs.Pairing.{is_request, is_response}
use Rattle.smq_pair.specs.declared.pairing.Pair.{Pair}
use Rattle.smq_pair.specs.Pairing.{PlacedHeader}
use Rattle.smq_pair.specs.Growth.{made_by}
use Rattle.smq_tally.specs.declared.list.List.TheVariants as list
use Rattle.smq_tally.specs.Lists.{listed}
use Rattle.smq_present.specs.declared.present.kept.StoredPdu.{StoredPdu}
use Rattle.smq_present.specs.declared.present.session.Session.{Session}
use Rattle.smq_present.specs.present.Batch.{BatchValue, batch_pdus, next_tail}
use Rattle.smq_present.specs.present.Kept.{kept_pdus, is_undecodable, is_unreadable}
use Rattle.smq_present.specs.pairing.Traffic.{Origin, broken_at, place_of, placed, pairing_among}
use Rattle.smq_present.specs.join.Moves.{Move, PutNote, TakeNote}
use Rattle.smq_book.specs.edits.Appended.{batch_origin, session_before}

-- a PDU that makes no pair is put in at its place: a request as one that waits, a response as a stray
abbrev pub alone_moves : PlacedHeader → List Move
alone_moves p =
    if is_request p.header then PutNote (listed list.Waiting p.place) ∷ []
    else (if is_response p.header then PutNote (listed list.StrayAnswers p.place) ∷ [] else [])

-- where it makes a pair, the other of the two is taken out: a response is a stray no more where the new one is its request,
-- and else a request waits no more; and where the response doesn't agree, its request is put in as mismatched
abbrev pub pair_moves : PlacedHeader → Pair → List Move
pair_moves p pair =
    (if is_request p.header then TakeNote (listed list.StrayAnswers pair.response)
    else TakeNote (listed list.Waiting pair.request))
    ∷ (if pair.agrees then [] else PutNote (listed list.Mismatched pair.request) ∷ [])

-- what a PDU puts in and takes out for the pair that it makes, if any
abbrev pub met_moves : PlacedHeader → Option Pair → List Move
met_moves p None = alone_moves p
met_moves p (Some pair) = pair_moves p pair

-- a PDU that can't be decoded is put in at its place
abbrev pub undecodable_moves : Origin → Dir → StoredPdu → List Move
undecodable_moves origin dir next =
    if is_undecodable next.content then PutNote (listed list.Undecodable (place_of origin dir next)) ∷ [] else []

-- a delivery receipt of the centre without a usable id or state is put in at its place
abbrev pub unreadable_moves : Origin → Dir → StoredPdu → List Move
unreadable_moves origin FromClient next = []
unreadable_moves origin FromCentre next =
    if is_unreadable next.content then PutNote (listed list.Unreadable (place_of origin FromCentre next)) ∷ [] else []

-- what the next PDU of a direction puts in and takes out: for its pair, and for its content
abbrev pub next_moves : Origin → Dir → List StoredPdu → List StoredPdu → StoredPdu → List Move
next_moves origin dir client centre next =
    met_moves (placed origin dir next) (made_by (pairing_among origin client centre) (placed origin dir next))
    ++ undecodable_moves origin dir next ++ unreadable_moves origin dir next

-- the same of PDUs more of a direction, in turn
abbrev pub note_moves : Origin → Dir → List StoredPdu → List StoredPdu → List StoredPdu → List Move
note_moves origin dir client centre [] = []
note_moves origin FromClient client centre (next ∷ later) =
    next_moves origin FromClient client centre next ++ note_moves origin FromClient (client ++ next ∷ []) centre later
note_moves origin FromCentre client centre (next ∷ later) =
    next_moves origin FromCentre client centre next ++ note_moves origin FromCentre client (centre ++ next ∷ []) later

-- a direction with this tail is put in as broken at the place of its bad length, where it has one
abbrev pub broken_moves : Origin → Dir → TailValue → List Move
broken_moves origin dir tail = map (λ q. PutNote (listed list.Broken q)) (option_to_list (broken_at origin dir tail))

-- what a batch puts into the notes and takes out, for its session, which may be absent: for the PDUs that it completes, and
-- at last for the tail at which it leaves its direction
abbrev pub append_notes : Option Session → BatchValue → List Move
append_notes session batch =
    note_moves (batch_origin session batch) batch.dir (kept_pdus (session_before session batch.link).client)
    (kept_pdus (session_before session batch.link).centre) (batch_pdus batch)
    ++ broken_moves (batch_origin session batch) batch.dir (next_tail batch)
