-- What is kept of a PDU, and what it says.
use Rattle.std.specs.Prelude.{ℕ, Bool, true, false, List, map, Option, Some, None, option_map, option_and_then, unwrap_or}
use Rattle.smq_frame.specs.Stream.{Octet}
use Rattle.smq_pdu.specs.Header.{Header}
use Rattle.smq_pdu.specs.Bodies.{BodyValue, SubmitValue, SubmitBody, SubmitAnswerBody, DeliverBody, DataSmBody, OtherBody, UndecodableBody, submit_of_data_sm, deliver_of_data_sm}
use Rattle.smq_pdu.specs.Placed.{PlacedPdu, stream_pdus}
use Rattle.smq_pdu.specs.declared.body.Submit.{Submit}
use Rattle.smq_receipt.specs.Readings.{reading_of}
use Rattle.smq_receipt.specs.declared.reading.Reading.{Reading}
use Rattle.smq_receipt.specs.declared.reading.Reading.TheVariants as v
use Rattle.smq_receipt.specs.declared.reading.Receipt.{Receipt}
use Rattle.smq_present.specs.present.Content.{Content}
use Rattle.smq_present.specs.present.Content as c
use Rattle.smq_present.specs.declared.present.kept.StoredPdu.{StoredPdu}

-- what is kept of what is read of a submit_sm
abbrev pub kept_submit : SubmitValue → Submit
kept_submit submit = record {
  registered_delivery = submit.registered_delivery;
  number = submit.number;
  source_ton = submit.source_ton;
  source = submit.source;
}

-- what is kept of a body
abbrev pub content_of_body : BodyValue → Content
content_of_body (SubmitBody submit) = c.Submit (kept_submit submit)
content_of_body (SubmitAnswerBody id) = c.SubmitAnswer id
content_of_body (DeliverBody deliver) = c.Deliver (reading_of deliver)
content_of_body (DataSmBody message) =
    c.DataSm (kept_submit (submit_of_data_sm message)) (reading_of (deliver_of_data_sm message))
content_of_body OtherBody = c.Other
content_of_body UndecodableBody = c.Undecodable

-- what is kept of a PDU
abbrev pub kept_pdu : PlacedPdu → StoredPdu
kept_pdu p = record {
  offset = p.offset;
  moment = p.moment;
  command = p.pdu.header.command;
  status = p.pdu.header.status;
  seq = p.pdu.header.seq;
  content = content_of_body p.pdu.body;
}

-- what is kept of the PDUs of a stream
abbrev pub kept_pdus : List Octet → List StoredPdu
kept_pdus stream = map kept_pdu (stream_pdus stream)

-- the header of a kept PDU
abbrev pub header_of : StoredPdu → Header
header_of p = record { command = p.command; status = p.status; seq = p.seq }

-- the headers of kept PDUs
abbrev pub headers_of : List StoredPdu → List Header
headers_of pdus = map header_of pdus

-- ---- what a PDU says: these four alone know the cases of its content

-- the submit_sm or data_sm that it is, where it can be decoded (SMPP 3.4, 4.4.1 and 4.7.1)
abbrev pub submit_in : Content → Option Submit
submit_in (c.Submit submit) = Some submit
submit_in (c.DataSm submit reading) = Some submit
submit_in _ = None

-- the message id that a submit_sm_resp or data_sm_resp gives, where it gives one (4.4.2 and 4.7.2)
abbrev pub id_in : Content → Option (List ℕ)
id_in (c.SubmitAnswer id) = id
id_in _ = None

-- what a deliver_sm or data_sm says as a delivery receipt (4.6.1, 4.7.1, appendix B)
abbrev pub reading_in : Content → Option Reading
reading_in (c.Deliver reading) = Some reading
reading_in (c.DataSm submit reading) = Some reading
reading_in _ = None

-- whether its body can't be read: it is a submit_sm, deliver_sm or data_sm whose mandatory fields don't fit
abbrev pub is_undecodable : Content → Bool
is_undecodable c.Undecodable = true
is_undecodable _ = false

-- the receipt of a reading that has an id and a state
abbrev pub receipt_read : Reading → Option Receipt
receipt_read (v.Receipt receipt) = Some receipt
receipt_read _ = None

-- the delivery receipt that a PDU is, where it says which message it is of and what became of it
abbrev pub receipt_in : Content → Option Receipt
receipt_in content = option_and_then receipt_read (reading_in content)

-- whether a reading is of a receipt without a usable id or state
abbrev pub is_unusable : Reading → Bool
is_unusable v.NoId = true
is_unusable v.NoState = true
is_unusable _ = false

-- whether a PDU is a delivery receipt that doesn't say which message it is of, or what became of it
abbrev pub is_unreadable : Content → Bool
is_unreadable content = unwrap_or (option_map is_unusable (reading_in content)) false
