-- Known PDUs, as values and as octets, and the notes of sessions that are made of them.
use Rattle.std.specs.Prelude.{◌≡◌, ◌+◌, ℕ, Bool, true, false, List, [], ◌∷◌, ◌++◌, length, codes, Option, Some, None, ℤ}
use Rattle.smq_kit.specs.declared.place.Dir.{Dir}
use Rattle.smq_kit.specs.declared.place.Dir.TheVariants.{FromClient, FromCentre}
use Rattle.smq_kit.specs.declared.place.Place.{Place}
use Rattle.smq_frame.specs.Stream.{handed_in}
use Rattle.smq_pdu.specs.Pairing.{is_request, is_response}
use Rattle.smq_pdu.specs.declared.body.Submit.{Submit}
use Rattle.smq_kit.specs.declared.error_code.ErrorCode.{ErrorCode}
use Rattle.smq_kit.specs.declared.error_code.ErrorCode.TheVariants as e
use Rattle.smq_receipt.specs.declared.message_state.MessageState.{MessageState}
use Rattle.smq_receipt.specs.declared.message_state.MessageState.TheVariants.{Delivered, Undeliverable}
use Rattle.smq_receipt.specs.declared.reading.Reading.{Reading}
use Rattle.smq_receipt.specs.declared.reading.Reading.TheVariants as v
use Rattle.smq_receipt.specs.declared.reading.Receipt.{Receipt}
use Rattle.smq_tally.specs.declared.list.List.TheVariants as l
use Rattle.smq_present.specs.present.Content.{Content}
use Rattle.smq_present.specs.present.Content as c
use Rattle.smq_present.specs.declared.present.kept.StoredPdu.{StoredPdu}
use Rattle.smq_present.specs.declared.present.session.Session.{Session}
use Rattle.smq_present.specs.present.Kept.{header_of}
use Rattle.smq_present.specs.pairing.Traffic.{Origin, notes_among, content_notes, session_notes}
use Rattle.smq_tally.specs.Lists.{listed}

-- a PDU at an offset, with its command_id, command_status, sequence_number and content
abbrev pub pdu : ℕ → ℕ → ℕ → ℕ → Content → StoredPdu
pdu offset command status seq content = record {
  offset = offset;
  moment = 1000;
  command = command;
  status = status;
  seq = seq;
  content = content;
}

-- what a message says with this registered_delivery and this number, without a source address
abbrev pub said : ℕ → Option (List ℕ) → Submit
said registered_delivery number =
    record { registered_delivery = registered_delivery; number = number; source_ton = 0; source = None }

-- a submit_sm (command_id 0x00000004) with this registered_delivery
abbrev pub submit : ℕ → ℕ → ℕ → StoredPdu
submit offset seq registered_delivery = pdu offset 0x0000_0004 0 seq
    (c.Submit (said registered_delivery None))

-- a submit_sm_resp (0x80000004) with status 0 and the message id `1`
abbrev pub accepted : ℕ → StoredPdu
accepted seq = pdu 0 0x8000_0004 0 seq (c.SubmitAnswer (Some (49 ∷ [])))

-- a submit_sm_resp with status 0 and no message id
abbrev pub without_id : ℕ → StoredPdu
without_id seq = pdu 0 0x8000_0004 0 seq (c.SubmitAnswer None)

-- a data_sm (0x00000103) with this registered_delivery that says this as a delivery receipt
abbrev pub data_sm : ℕ → ℕ → ℕ → Reading → StoredPdu
data_sm offset seq registered_delivery reading = pdu offset 0x0000_0103 0 seq
    (c.DataSm (said registered_delivery None) reading)

-- a data_sm_resp (0x80000103) with status 0 and the message id `1`
abbrev pub data_sm_accepted : ℕ → StoredPdu
data_sm_accepted seq = pdu 0 0x8000_0103 0 seq (c.SubmitAnswer (Some (49 ∷ [])))

-- a generic_nack (0x80000000) with this status
abbrev pub nack : ℕ → ℕ → StoredPdu
nack status seq = pdu 0 0x8000_0000 status seq c.Other

-- an enquire_link_resp (0x80000015) with this status
abbrev pub link_response : ℕ → ℕ → StoredPdu
link_response status seq = pdu 0 0x8000_0015 status seq c.Other

-- a receipt of the message id `1` with this state, error and mark of an intermediate notification
abbrev pub receipt_saying : MessageState → ErrorCode → Bool → Receipt
receipt_saying state error interim =
    record { id = 49 ∷ []; state = state; interim = interim; error = error; centre_delay = None }

-- a deliver_sm (0x00000005) at an offset and a moment that is this receipt
abbrev pub receipt_pdu : ℕ → ℕ → Receipt → StoredPdu
receipt_pdu offset moment receipt = record {
  offset = offset;
  moment = moment;
  command = 0x0000_0005;
  status = 0;
  seq = 90;
  content = c.Deliver (v.Receipt receipt);
}

-- such a receipt that says that the message was delivered, and one that it failed without an error
abbrev pub delivered : ℕ → ℕ → StoredPdu
delivered offset moment = receipt_pdu offset moment (receipt_saying Delivered e.Unstated false)

abbrev pub failed : ℕ → ℕ → StoredPdu
failed offset moment = receipt_pdu offset moment (receipt_saying Undeliverable e.Unstated false)

-- such a deliver_sm with this delay at the centre, which says that the message was delivered
abbrev pub delivered_after : ℕ → ℕ → ℤ → StoredPdu
delivered_after offset moment delay =
    receipt_pdu offset moment (record (receipt_saying Delivered e.Unstated false) { centre_delay = Some delay })

-- session 10 of link 1
abbrev pub known_origin : Origin
known_origin = record { session = record { 0 = 10 }; link = record { 0 = 1 } }

-- a request and a later PDU of one sequence number, and two responses of it
pub record InTurn (one two response later : StoredPdu) : Type 0 where
  pub request : is_request (header_of one) ≡ true
  pub first_response : is_response (header_of response) ≡ true
  pub next_response : is_response (header_of later) ≡ true
  pub next_seq : two.seq ≡ one.seq
  pub first_response_seq : response.seq ≡ one.seq
  pub next_response_seq : later.seq ≡ one.seq

-- a place: a session, a direction and an offset
abbrev pub place_at : ℕ → Dir → ℕ → Place
place_at session dir offset = record { session = record { 0 = session }; dir = dir; offset = offset }

-- a session: its client asks with the numbers 7, 8 and 9, responds to 5 as another command, and responds to 4, which
-- nobody asked
abbrev pub notes_client : List StoredPdu
notes_client =
    submit 0 7 1 ∷ submit 49 8 1 ∷ submit 98 9 1 ∷ pdu 147 0x8000_0015 0 5 c.Other ∷ pdu 163 0x8000_0005 0 4 c.Other ∷ []

-- its centre responds to 7 as it should, to 8 as another command, and to 6, which nobody asked, and asks with 5 and 3
abbrev pub notes_centre : List StoredPdu
notes_centre =
    pdu 0 0x8000_0004 0 7 (c.SubmitAnswer None) ∷ pdu 16 0x8000_0015 0 8 c.Other
    ∷ pdu 32 0x8000_0004 0 6 (c.SubmitAnswer None) ∷ pdu 48 0x0000_0005 0 5 c.Other ∷ pdu 64 0x0000_0015 0 3 c.Other ∷ []

-- a session: its client sends a submit_sm and a deliver_sm that can't be decoded, and receipts without an id, which are none
abbrev pub unread_client : List StoredPdu
unread_client =
    pdu 0 0x0000_0004 0 1 c.Undecodable ∷ pdu 20 0x0000_0005 0 2 c.Undecodable
    ∷ pdu 40 0x0000_0005 0 3 (c.Deliver v.NoId) ∷ data_sm 90 4 0 v.NoId ∷ []

-- its centre sends a receipt without an id, one without a state, a message that is no receipt, a receipt with both, a
-- submit_sm and a deliver_sm that can't be decoded, and by data_sm a receipt without an id, one without a state, and a message
abbrev pub unread_centre : List StoredPdu
unread_centre =
    pdu 0 0x0000_0005 0 1 (c.Deliver v.NoId) ∷ pdu 50 0x0000_0005 0 2 (c.Deliver v.NoState)
    ∷ pdu 100 0x0000_0005 0 3 (c.Deliver v.NotReceipt) ∷ delivered 150 5000
    ∷ pdu 200 0x0000_0004 0 4 c.Undecodable ∷ pdu 220 0x0000_0005 0 5 c.Undecodable
    ∷ data_sm 240 6 0 v.NoId ∷ data_sm 280 7 0 v.NoState ∷ data_sm 320 8 0 v.NotReceipt ∷ []

-- a PDU of a command below 256 (as a response or not), with a status of 0, a sequence_number below 256 and a body
abbrev pub pdu_octets : ℕ → ℕ → ℕ → List ℕ → List ℕ
pdu_octets bit command seq body =
    0 ∷ 0 ∷ 0 ∷ (length body + 16) ∷ bit ∷ 0 ∷ 0 ∷ command ∷ 0 ∷ 0 ∷ 0 ∷ 0 ∷ 0 ∷ 0 ∷ 0 ∷ seq ∷ body

-- a submit_sm to a destination of international type (SMPP 3.4, 5.2.5) that asks for a receipt, without source address
-- and message
abbrev pub submit_octets : ℕ → List ℕ → List ℕ
submit_octets seq destination =
    pdu_octets 0 4 seq
    (0 ∷ 0 ∷ 0 ∷ 0 ∷ 1 ∷ 1 ∷ destination ++ 0 ∷ 0 ∷ 0 ∷ 0 ∷ 0 ∷ 0 ∷ 1 ∷ 0 ∷ 0 ∷ 0 ∷ 0 ∷ [])

-- a submit_sm_resp with this message id
abbrev pub response_octets : ℕ → List ℕ → List ℕ
response_octets seq id = pdu_octets 128 4 seq (id ++ 0 ∷ [])

-- a deliver_sm that is a delivery receipt with this text
abbrev pub receipt_octets : ℕ → List ℕ → List ℕ
receipt_octets seq text =
    pdu_octets 0 5 seq (0 ∷ 0 ∷ 0 ∷ 0 ∷ 0 ∷ 0 ∷ 0 ∷ 4 ∷ 0 ∷ 0 ∷ 0 ∷ 0 ∷ 0 ∷ 0 ∷ 0 ∷ 0 ∷ length text ∷ text)

-- session 10 of link 1, both directions of which break off: the client's after a submit_sm without a body, at a length of 15,
-- after which a whole PDU comes; the centre's after two receipts, one without an id and one without a state, and a
-- deliver_sm without a body, at a length of 131,073
abbrev pub broken_session : Session
broken_session = record {
  link = record { 0 = 1 };
  client = handed_in 1000 (pdu_octets 0 4 1 [] ++ 0 ∷ 0 ∷ 0 ∷ 15 ∷ []) ++ handed_in 2000 (pdu_octets 0 4 2 []);
  centre = handed_in 1200 (receipt_octets 90 (codes "stat:DELIVRD") ++ receipt_octets 91 (codes "id:7"))
      ++ handed_in 1300 (pdu_octets 0 5 92 [] ++ 0 ∷ 2 ∷ 0 ∷ 1 ∷ []);
}

-- Notes of sessions that are written out: by pairs, by contents, and from octets.
pub record KnownNotes : Type 0 where
  pub notes :
      notes_among known_origin notes_client notes_centre
      ≡ listed l.Waiting (place_at 10 FromClient 98) ∷ listed l.Waiting (place_at 10 FromCentre 64)
      ∷ listed l.StrayAnswers (place_at 10 FromClient 163) ∷ listed l.StrayAnswers (place_at 10 FromCentre 32)
      ∷ listed l.Mismatched (place_at 10 FromClient 49) ∷ listed l.Mismatched (place_at 10 FromCentre 48) ∷ []
  pub contents :
      content_notes known_origin unread_client unread_centre
      ≡ listed l.Unreadable (place_at 10 FromCentre 0) ∷ listed l.Unreadable (place_at 10 FromCentre 50)
      ∷ listed l.Unreadable (place_at 10 FromCentre 240) ∷ listed l.Unreadable (place_at 10 FromCentre 280)
      ∷ listed l.Undecodable (place_at 10 FromClient 0) ∷ listed l.Undecodable (place_at 10 FromClient 20)
      ∷ listed l.Undecodable (place_at 10 FromCentre 200) ∷ listed l.Undecodable (place_at 10 FromCentre 220) ∷ []
  pub octets :
      session_notes (10, broken_session)
      ≡ listed l.Waiting (place_at 10 FromClient 0) ∷ listed l.Waiting (place_at 10 FromCentre 0)
      ∷ listed l.Waiting (place_at 10 FromCentre 45) ∷ listed l.Waiting (place_at 10 FromCentre 82)
      ∷ listed l.Unreadable (place_at 10 FromCentre 0) ∷ listed l.Unreadable (place_at 10 FromCentre 45)
      ∷ listed l.Undecodable (place_at 10 FromClient 0) ∷ listed l.Undecodable (place_at 10 FromCentre 82)
      ∷ listed l.Broken (place_at 10 FromClient 16) ∷ listed l.Broken (place_at 10 FromCentre 98) ∷ []
