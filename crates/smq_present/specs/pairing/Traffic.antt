-- What the PDUs that are present say, whatever is set: messages with their responses, and delivery receipts, by place;
-- and the places that need a look.
use Rattle.std.specs.Prelude.{◌==◌, not, ℕ, ◌%◌, Bool, false, List, [], ◌∷◌, ◌++◌, map, count_by, filter, slice_get, Option, Some, None, option_map, option_to_list}
use Rattle.std.specs.List.{flat_map}
use Rattle.std.specs.FinMap as map
use Rattle.std.specs.FinSet.{FinSet}
use Rattle.std.specs.Ordering.{nat_cmp}
use Rattle.smq_kit.specs.declared.names.LinkId.{LinkId}
use Rattle.smq_kit.specs.declared.names.SessionId.{SessionId}
use Rattle.smq_kit.specs.declared.place.Dir.{Dir}
use Rattle.smq_kit.specs.declared.place.Dir.TheVariants.{FromClient, FromCentre}
use Rattle.smq_kit.specs.declared.place.Place.{Place}
use Rattle.smq_kit.specs.Orders.{place_cmp}
use Rattle.smq_frame.specs.Stream.{values}
use Rattle.smq_frame.specs.Tail.{TailValue, tail_of}
use Rattle.smq_pdu.specs.Header.{Header}
use Rattle.smq_pdu.specs.Pairing.{agrees, is_request, is_response_of, is_request_of}
use Rattle.smq_pdu.specs.declared.body.Submit.{Submit}
use Rattle.smq_receipt.specs.declared.reading.Receipt.{Receipt}
use Rattle.smq_pair.specs.Pairing.{PlacedHeader, PairingValue, pair_at, places_of, waiting, strays}
use Rattle.smq_pair.specs.declared.pairing.Pair.{Pair}
use Rattle.smq_tally.specs.declared.list.List.TheVariants as list
use Rattle.smq_tally.specs.declared.list.Listed.{Listed}
use Rattle.smq_present.specs.present.Content.{Content}
use Rattle.smq_present.specs.declared.present.kept.StoredPdu.{StoredPdu}
use Rattle.smq_present.specs.declared.present.session.Session.{Session}
use Rattle.smq_tally.specs.Lists.{listed, listed_cmp, listed_set}
use Rattle.smq_present.specs.present.Kept.{header_of, headers_of, kept_pdus, submit_in, id_in, receipt_in, is_undecodable, is_unreadable}

-- what a response says to its request: whether its command agrees, its command_status, and the message id that it gives
pub record Response : Type 0 where
  pub agrees : Bool
  pub status : ℕ
  pub id : Option (List ℕ)

-- a message: a decodable submit_sm or data_sm of the client (SMPP 3.4, 4.4.1 and 4.7.1), with the number that it is sent to
-- and its response, where it has them
pub record Message : Type 0 where
  pub link : LinkId
  pub moment : ℕ
  pub number : Option (List ℕ)
  pub asks_receipt : Bool
  pub response : Option Response

-- a delivery receipt: a deliver_sm or data_sm of the centre (4.6.1 and 4.7.1) that says which message it is of and what
-- became of it
pub record ReceivedReceipt : Type 0 where
  pub link : LinkId
  pub moment : ℕ
  pub receipt : Receipt

-- what the PDUs of sessions say, at their places, and the places that need a look
pub record TrafficValue : Type 0 where
  pub messages : map.FinMap place_cmp Message
  pub receipts : map.FinMap place_cmp ReceivedReceipt
  pub notes : FinSet listed_cmp

-- ---- the response to a request: that of its sequence number and rank

-- each PDU of a direction with those before it
abbrev pub with_earlier : List StoredPdu → List StoredPdu → List (List StoredPdu × StoredPdu)
with_earlier earlier [] = []
with_earlier earlier (p ∷ later) = (earlier, p) ∷ with_earlier (earlier ++ p ∷ []) later

-- the rank of a request: how many requests of its sequence number come before it
abbrev pub rank_after : List StoredPdu → ℕ → ℕ
rank_after earlier seq = count_by (is_request_of seq) (headers_of earlier)

-- the responses of a sequence number, in order
abbrev pub responses_of : List StoredPdu → ℕ → List StoredPdu
responses_of centre seq = filter (λ r. is_response_of seq (header_of r)) centre

-- the response to a request of the client, after these: of the responses of its sequence number the one of its rank
abbrev pub response_to : List StoredPdu → List StoredPdu → StoredPdu → Option StoredPdu
response_to centre earlier p = slice_get (responses_of centre p.seq) (rank_after earlier p.seq)

-- what a response says to a request
abbrev pub response_in : Header → StoredPdu → Response
response_in request p =
    record { agrees = agrees request (header_of p); status = p.status; id = id_in p.content }

-- ---- messages and receipts of a session

-- where PDUs come from: a session and its link
pub record Origin : Type 0 where
  pub session : SessionId
  pub link : LinkId

-- the place of a PDU
abbrev pub place_of : Origin → Dir → StoredPdu → Place
place_of origin dir p = record { session = origin.session; dir = dir; offset = p.offset }

-- a delivery receipt is asked where bits 1 and 0 of registered_delivery aren't both 0 (SMPP 3.4, 5.2.17)
abbrev pub asks_receipt : ℕ → Bool
asks_receipt registered_delivery = not (registered_delivery % 4 == 0)

-- the message that a submit_sm or data_sm and its response are
abbrev pub message_of : Origin → StoredPdu → Submit → Option StoredPdu → Message
message_of origin p submit response = record {
  link = origin.link;
  moment = p.moment;
  number = submit.number;
  asks_receipt = asks_receipt submit.registered_delivery;
  response = option_map (response_in (header_of p)) response;
}

-- the message that a PDU of the client is, at its place, where it is a decodable submit_sm or data_sm
abbrev pub message_at : Origin → List StoredPdu → List StoredPdu → StoredPdu → Option (Place × Message)
message_at origin centre earlier p =
    option_map (λ submit. (place_of origin FromClient p, message_of origin p submit (response_to centre earlier p)))
    (submit_in p.content)

-- the messages of a session whose PDUs are these
abbrev pub messages_among : Origin → List StoredPdu → List StoredPdu → List (Place × Message)
messages_among origin client centre =
    flat_map (λ e. option_to_list (message_at origin centre e.0 e.1)) (with_earlier [] client)

-- a delivery receipt that comes in a PDU
abbrev pub received : Origin → StoredPdu → Receipt → ReceivedReceipt
received origin p receipt = record { link = origin.link; moment = p.moment; receipt = receipt }

-- the delivery receipt that a PDU of the centre is, at its place, where it is one
abbrev pub receipt_at : Origin → StoredPdu → Option (Place × ReceivedReceipt)
receipt_at origin p = option_map (λ receipt. (place_of origin FromCentre p, received origin p receipt)) (receipt_in p.content)

-- the delivery receipts of a session whose PDUs of the centre are these
abbrev pub receipts_among : Origin → List StoredPdu → List (Place × ReceivedReceipt)
receipts_among origin centre = flat_map (λ p. option_to_list (receipt_at origin p)) centre

-- ---- notes of a session: the places that need a look, in their lists

-- a PDU at its place, as its header says
abbrev pub placed : Origin → Dir → StoredPdu → PlacedHeader
placed origin dir p = record { place = place_of origin dir p; header = header_of p }

-- the PDUs of a session whose PDUs are these, as pairs are made of them
abbrev pub pairing_among : Origin → List StoredPdu → List StoredPdu → PairingValue
pairing_among origin client centre =
    record { client = map (placed origin FromClient) client; centre = map (placed origin FromCentre) centre }

-- whether a response doesn't agree with its request
abbrev pub disagrees : Option Pair → Bool
disagrees None = false
disagrees (Some pair) = not pair.agrees

-- the places of the requests of both directions whose response doesn't agree, in order: the client's first
abbrev pub mismatched : PairingValue → List Place
mismatched v = filter (λ q. disagrees (pair_at v q)) (places_of is_request v)

-- the notes of pairs: the requests that wait, the responses that are strays, and the requests that are mismatched
abbrev pub pairing_notes : PairingValue → List Listed
pairing_notes v =
    map (listed list.Waiting) (waiting v) ++ map (listed list.StrayAnswers) (strays v)
    ++ map (listed list.Mismatched) (mismatched v)

-- the places of the PDUs of a direction whose content passes a test
abbrev pub places_where : (Content → Bool) → Origin → Dir → List StoredPdu → List Place
places_where test origin dir pdus = map (place_of origin dir) (filter (λ p. test p.content) pdus)

-- the places of the centre's delivery receipts without a usable id or state (4.6.1, appendix B)
abbrev pub unreadable : Origin → List StoredPdu → List Place
unreadable origin centre = places_where is_unreadable origin FromCentre centre

-- the places of the PDUs of both directions whose body can't be read: the client's first
abbrev pub undecodable : Origin → List StoredPdu → List StoredPdu → List Place
undecodable origin client centre =
    places_where is_undecodable origin FromClient client ++ places_where is_undecodable origin FromCentre centre

-- the notes of contents: the receipts that are unreadable, and the PDUs that are undecodable
abbrev pub content_notes : Origin → List StoredPdu → List StoredPdu → List Listed
content_notes origin client centre =
    map (listed list.Unreadable) (unreadable origin centre)
    ++ map (listed list.Undecodable) (undecodable origin client centre)

-- the notes of a session whose PDUs are these
abbrev pub notes_among : Origin → List StoredPdu → List StoredPdu → List Listed
notes_among origin client centre =
    pairing_notes (pairing_among origin client centre) ++ content_notes origin client centre

-- the place at which a direction with this tail is broken, where it is: that of a bad length, whatever comes after it
abbrev pub broken_at : Origin → Dir → TailValue → Option Place
broken_at origin dir tail =
    option_map (λ offset. record { session = origin.session; dir = dir; offset = offset }) tail.broken

-- the places at which the directions of a session with these tails are broken: the client's first
abbrev pub broken : Origin → TailValue → TailValue → List Place
broken origin client centre =
    option_to_list (broken_at origin FromClient client) ++ option_to_list (broken_at origin FromCentre centre)

-- the notes of directions: where they are broken
abbrev pub broken_notes : Origin → TailValue → TailValue → List Listed
broken_notes origin client centre = map (listed list.Broken) (broken origin client centre)

-- ---- of all sessions

-- a session by its number, and its link
abbrev pub origin_of : ℕ × Session → Origin
origin_of e = record { session = record { 0 = e.0 }; link = e.1.link }

-- the messages of a session
abbrev pub session_messages : ℕ × Session → List (Place × Message)
session_messages e = messages_among (origin_of e) (kept_pdus e.1.client) (kept_pdus e.1.centre)

-- its delivery receipts
abbrev pub session_receipts : ℕ × Session → List (Place × ReceivedReceipt)
session_receipts e = receipts_among (origin_of e) (kept_pdus e.1.centre)

-- the PDUs of a session, as pairs are made of them
abbrev pub session_pairing : ℕ × Session → PairingValue
session_pairing e = pairing_among (origin_of e) (kept_pdus e.1.client) (kept_pdus e.1.centre)

-- its notes: those of its PDUs, and where its directions are broken
abbrev pub session_notes : ℕ × Session → List Listed
session_notes e =
    notes_among (origin_of e) (kept_pdus e.1.client) (kept_pdus e.1.centre)
    ++ broken_notes (origin_of e) (tail_of (values e.1.client)) (tail_of (values e.1.centre))

-- the traffic of these messages, receipts and notes
abbrev pub traffic_among : List (Place × Message) → List (Place × ReceivedReceipt) → List Listed → TrafficValue
traffic_among messages receipts notes = record {
  messages = map.from_entries messages;
  receipts = map.from_entries receipts;
  notes = listed_set notes;
}

-- the messages, receipts and notes of all sessions
abbrev pub traffic_of : map.FinMap nat_cmp Session → TrafficValue
traffic_of sessions =
    traffic_among (flat_map session_messages (map.entries sessions)) (flat_map session_receipts (map.entries sessions))
    (flat_map session_notes (map.entries sessions))
