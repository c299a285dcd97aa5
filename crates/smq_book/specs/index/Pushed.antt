-- What is held after moves, and what PDUs more of a session put into the traffic and take out of it, notes and all.
use Rattle.std.specs.Prelude.{◌≡◌, List, [], ◌∷◌, ◌++◌, map, if◌then◌else◌, Option, Some, None, option_and_then, option_map, option_to_list}
use Rattle.std.specs.List.{flat_map}
use Rattle.std.specs.FinMap as fin
use Rattle.smq_kit.specs.Orders.{place_cmp}
use Rattle.smq_kit.specs.declared.names.LinkId.{LinkId}
use Rattle.smq_kit.specs.declared.names.SessionId.{SessionId}
use Rattle.smq_kit.specs.declared.place.Dir.{Dir}
use Rattle.smq_kit.specs.declared.place.Dir.TheVariants.{FromClient, FromCentre}
use Rattle.smq_kit.specs.declared.place.Place.{Place}
use Rattle.smq_pair.specs.declared.pairing.Pair.{Pair}
use Rattle.smq_pair.specs.Pairing.{PairingValue}
use Rattle.smq_pdu.specs.Header.{Header}
use Rattle.smq_pdu.specs.Pairing.{is_request}
use Rattle.smq_pdu.specs.declared.body.Submit.{Submit}
use Rattle.smq_tally.specs.declared.list.List.TheVariants as list
use Rattle.smq_tally.specs.Lists.{listed}
use Rattle.smq_present.specs.declared.present.kept.StoredPdu.{StoredPdu}
use Rattle.smq_present.specs.present.Kept.{id_in, submit_in}
use Rattle.smq_present.specs.present.Settings.{SettingsValue}
use Rattle.smq_present.specs.pairing.Traffic.{Message, Origin, Response, TrafficValue, asks_receipt, messages_among, pairing_among, place_of, placed, receipt_at, receipts_among}
use Rattle.smq_present.specs.join.Moves.{Move, PutMessage, PutReceipt, PutNote, TakeNote, moved_by}
use Rattle.smq_present.specs.within.Pairs.{pdu_at}
use Rattle.smq_book.specs.edits.Appended.{anew, centre_moves, client_moves}
use Rattle.smq_book.specs.edits.AppendedNotes.{met_moves, next_moves, undecodable_moves, unreadable_moves}
use Rattle.smq_book.specs.index.Held.{Holding, IsHeld, traffic_held}

-- What is held after moves, in turn, is that of the traffic that they leave.
pub record IsHeldAfter (s : SettingsValue) (g : Holding) (moves : List Move) (h : Holding) : Type 0 where
  pub held : IsHeld s h
  pub traffic : traffic_held h ≡ moved_by (traffic_held g) moves

-- the note that the other PDU of a pair is taken out of: a response is a stray no more, or a request waits no more
abbrev pub other_move : Header → Pair → Move
other_move header pair =
    if is_request header then TakeNote (listed list.StrayAnswers pair.response)
    else TakeNote (listed list.Waiting pair.request)

-- the request of a pair is put in as mismatched, where the response doesn't agree
abbrev pub mismatch_moves : Pair → List Move
mismatch_moves pair = if pair.agrees then [] else PutNote (listed list.Mismatched pair.request) ∷ []

-- what a PDU puts into the notes and takes out, for this pair, if any, and for its content
abbrev pub noted_moves : Origin → Dir → StoredPdu → Option Pair → List Move
noted_moves origin dir next made =
    met_moves (placed origin dir next) made ++ undecodable_moves origin dir next ++ unreadable_moves origin dir next

-- where the PDUs of a session of this link come from
abbrev pub origin_at : SessionId → LinkId → Origin
origin_at session link = record { session = session; link = link }

-- what the response of a pair says to its request
abbrev pub said_by : Pair → StoredPdu → Response
said_by pair response = record { agrees = pair.agrees; status = pair.status; id = id_in response.content }

-- the same where a pair is made whose response is one of these PDUs of the centre
abbrev pub paired_response : List StoredPdu → Option Pair → Option Response
paired_response centre made =
    option_and_then (λ pair. option_map (said_by pair) (pdu_at centre pair.response.offset)) made

-- the message that a submit_sm or data_sm is, with what its response says, where it has one
abbrev pub message_with : Origin → StoredPdu → Submit → Option Response → Message
message_with origin p submit response = record {
  link = origin.link;
  moment = p.moment;
  number = submit.number;
  asks_receipt = asks_receipt submit.registered_delivery;
  response = response;
}

-- a PDU of the client puts in the message that it is, if any
abbrev pub submit_moves : Origin → StoredPdu → Option Response → List Move
submit_moves origin p response =
    map PutMessage (option_to_list (option_map (λ submit. (place_of origin FromClient p, message_with origin p submit response))
    (submit_in p.content)))

-- a message with what its response says
abbrev pub with_response : Message → Response → Message
with_response m response = record m { response = Some response }

-- a message before its response
abbrev pub without_response : Message → Message
without_response m = record m { response = None }

-- where a pair is made whose request is one of these messages, it is taken out and put in anew with what the response says
abbrev pub answer_moves : fin.FinMap place_cmp Message → Option Pair → StoredPdu → List Move
answer_moves messages made response =
    flat_map anew (option_to_list (option_and_then (λ pair.
    option_map (λ m. (pair.request, with_response m (said_by pair response))) (fin.get messages pair.request)) made))

-- a PDU of the centre puts in the delivery receipt that it is, if any
abbrev pub receipt_moves : Origin → StoredPdu → List Move
receipt_moves origin p = map PutReceipt (option_to_list (receipt_at origin p))

-- what the next PDU of a direction puts in and changes, by the messages and the PDUs of the centre that there are and by the pair
-- that it makes: its notes, and the message that it is, or the message that it answers and the receipt that it is
abbrev pub said_moves : Origin → Dir → fin.FinMap place_cmp Message → List StoredPdu → StoredPdu → Option Pair → List Move
said_moves origin FromClient messages centre next made = submit_moves origin next (paired_response centre made)
said_moves origin FromCentre messages centre next made = answer_moves messages made next ++ receipt_moves origin next

abbrev pub moves_by : Origin → Dir → fin.FinMap place_cmp Message → List StoredPdu → StoredPdu → Option Pair → List Move
moves_by origin dir messages centre next made = noted_moves origin dir next made ++ said_moves origin dir messages centre next made

-- Nothing stands yet at the place of the next PDU of a direction, and the message that it answers has no response.
abbrev pub IsUnsaid : TrafficValue → Origin → Dir → StoredPdu → Option Pair → Type 0
IsUnsaid t origin FromClient next made = fin.get t.messages (place_of origin FromClient next) ≡ None
IsUnsaid t origin FromCentre next made =
    (fin.get t.receipts (place_of origin FromCentre next) ≡ None)
    × ((pair : Pair) (m : Message) → made ≡ Some pair → fin.get t.messages pair.request ≡ Some m → m.response ≡ None)

-- the next PDU of a direction: its notes, then the messages and the receipt that it puts in or changes
abbrev pub pdu_moves : Origin → Dir → List StoredPdu → List StoredPdu → StoredPdu → List Move
pdu_moves origin FromClient client centre next =
    next_moves origin FromClient client centre next ++ client_moves origin client centre next
pdu_moves origin FromCentre client centre next =
    next_moves origin FromCentre client centre next ++ centre_moves origin client centre next

-- the PDUs of the client, and those of the centre, once PDUs more of a direction came
abbrev pub client_with : Dir → List StoredPdu → List StoredPdu → List StoredPdu
client_with FromClient client later = client ++ later
client_with FromCentre client later = client

abbrev pub centre_with : Dir → List StoredPdu → List StoredPdu → List StoredPdu
centre_with FromClient centre later = centre
centre_with FromCentre centre later = centre ++ later

-- the same of PDUs more of a direction, in turn
abbrev pub pushed_moves : Origin → Dir → List StoredPdu → List StoredPdu → List StoredPdu → List Move
pushed_moves origin dir client centre [] = []
pushed_moves origin dir client centre (next ∷ later) =
    pdu_moves origin dir client centre next
    ++ pushed_moves origin dir (client_with dir client (next ∷ [])) (centre_with dir centre (next ∷ [])) later

-- ---- PDUs more of a session

-- At the places of a session the messages and the delivery receipts of traffic are those that these PDUs say.
pub record IsSaidBy (origin : Origin) (client centre : List StoredPdu) (t : TrafficValue) : Type 0 where
  pub messages : (q : Place) → q.session.0 ≡ origin.session.0
      → fin.get t.messages q ≡ fin.find place_cmp q (messages_among origin client centre)
  pub receipts : (q : Place) → q.session.0 ≡ origin.session.0
      → fin.get t.receipts q ≡ fin.find place_cmp q (receipts_among origin centre)

-- the pairs of a session whose PDUs are these, once PDUs more of a direction came
abbrev pub pairing_with : Origin → Dir → List StoredPdu → List StoredPdu → List StoredPdu → PairingValue
pairing_with origin dir client centre later = pairing_among origin (client_with dir client later) (centre_with dir centre later)
