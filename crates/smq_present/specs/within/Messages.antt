-- The submitted messages of a session as a list, each with its response by its index in the direction.
use Rattle.std.specs.Prelude.{◌==◌, ◌&&◌, if◌then◌else◌, ℕ, Bool, List, [], ◌∷◌, slice_get, Option, Some, None, option_map, option_and_then}
use Rattle.std.specs.List.{enumerate_from, flat_map}
use Rattle.smq_kit.specs.declared.names.LinkId.{LinkId}
use Rattle.smq_kit.specs.declared.place.Dir.TheVariants.{FromClient}
use Rattle.smq_kit.specs.declared.place.Place.{Place}
use Rattle.smq_pdu.specs.Header.{Header}
use Rattle.smq_pdu.specs.Pairing.{agrees, request_rank, response_index}
use Rattle.smq_pdu.specs.declared.body.Submit.{Submit}
use Rattle.smq_present.specs.declared.present.kept.StoredPdu.{StoredPdu}
use Rattle.smq_kit.specs.declared.link_key.LinkKey.{LinkKey}
use Rattle.smq_present.specs.declared.pairing.pairs.SessionForms.{SessionForms}
use Rattle.smq_present.specs.present.Kept.{header_of, headers_of, submit_in, id_in}
use Rattle.smq_present.specs.pairing.Traffic.{asks_receipt}
use Rattle.smq_kit.specs.LinkKeys.{link_key}

-- a submitted message: a decodable submit_sm or data_sm of the client (SMPP 3.4, 4.4.1 and 4.7.1), with its number and its
-- response, where it has them, the key of its id where it is accepted, and the address that it comes from
pub record SubmittedMessage : Type 0 where
  pub link : LinkId
  pub place : Place
  pub moment : ℕ
  pub number : Option (List ℕ)
  pub header : Header
  pub asks_receipt : Bool
  pub response : Option StoredPdu
  pub key : Option LinkKey
  pub source_ton : ℕ
  pub source : Option (List ℕ)

-- the response to the i-th PDU of the client, by sequence number and rank
abbrev pub response_of : List StoredPdu → List StoredPdu → ℕ → StoredPdu → Option StoredPdu
response_of client centre i p =
    option_and_then (λ j. slice_get centre j)
    (response_index (headers_of centre) p.seq (request_rank (headers_of client) i p.seq))

-- the id with which a request is accepted: its response agrees, has status 0 and gives one
abbrev pub accepted_id : Header → Option StoredPdu → Option (List ℕ)
accepted_id request None = None
accepted_id request (Some response) =
    if agrees request (header_of response) && response.status == 0 then id_in response.content else None

-- the key of that id, under the form of responses
abbrev pub accepted_key : SessionForms → Header → Option StoredPdu → Option LinkKey
accepted_key source request response =
    option_map (link_key source.link source.forms.response) (accepted_id request response)

-- the message that a submit_sm or data_sm and its response are
abbrev pub message_of : SessionForms → StoredPdu → Submit → Option StoredPdu → SubmittedMessage
message_of source p submit response = record {
  link = source.link;
  place = record { session = source.session; dir = FromClient; offset = p.offset };
  moment = p.moment;
  number = submit.number;
  header = header_of p;
  asks_receipt = asks_receipt submit.registered_delivery;
  response = response;
  key = accepted_key source (header_of p) response;
  source_ton = submit.source_ton;
  source = submit.source;
}

-- a PDU of the client with this response, where it is this decodable submit_sm or data_sm
abbrev pub submit_with : Option Submit → SessionForms → StoredPdu → Option StoredPdu → List SubmittedMessage
submit_with (Some submit) source p response = message_of source p submit response ∷ []
submit_with None source p response = []

-- the i-th PDU of the client, where it is this decodable submit_sm or data_sm
abbrev pub submit_by : Option Submit → SessionForms → List StoredPdu → List StoredPdu → ℕ → StoredPdu → List SubmittedMessage
submit_by submit source client centre i p = submit_with submit source p (response_of client centre i p)

-- the submitted messages of a session whose PDUs are these
abbrev pub submits_among : SessionForms → List StoredPdu → List StoredPdu → List SubmittedMessage
submits_among source client centre =
    flat_map (λ e. submit_by (submit_in e.1.content) source client centre e.0 e.1) (enumerate_from 0 client)
