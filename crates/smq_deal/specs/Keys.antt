-- The keys of PDUs: that of the message or the delivery receipt which a request and its response are.
use Rattle.std.specs.Prelude.{if◌then◌else◌, List, Option, Some, None, count_by, slice_get, option_map, option_and_then}
use Rattle.smq_kit.specs.LinkKeys.{link_key}
use Rattle.smq_kit.specs.declared.link_key.LinkKey.{LinkKey}
use Rattle.smq_kit.specs.declared.place.Dir.{Dir}
use Rattle.smq_kit.specs.declared.place.Dir.TheVariants.{FromClient, FromCentre}
use Rattle.smq_pdu.specs.Pairing.{is_request, is_response, is_response_of}
use Rattle.smq_present.specs.declared.pairing.pairs.SessionForms.{SessionForms}
use Rattle.smq_present.specs.declared.present.kept.StoredPdu.{StoredPdu}
use Rattle.smq_present.specs.pairing.Dealt.{requests_numbered}
use Rattle.smq_present.specs.pairing.Traffic.{response_to}
use Rattle.smq_present.specs.present.Kept.{header_of, headers_of, receipt_in, submit_in}
use Rattle.smq_present.specs.within.Messages.{accepted_key}

-- the other direction
abbrev pub opposite : Dir → Dir
opposite FromClient = FromCentre
opposite FromCentre = FromClient

-- the key of the id with which a message is accepted, where a request of a client and its response are one (SMPP 3.4, 4.4 and 4.7)
abbrev pub message_key : SessionForms → StoredPdu → Option StoredPdu → Option LinkKey
message_key source request response =
    option_and_then (λ submit. accepted_key source (header_of request) response) (submit_in request.content)

-- the key of the id of a delivery receipt, where a PDU of a centre is one (4.6 and 4.7)
abbrev pub receipt_key : SessionForms → StoredPdu → Option LinkKey
receipt_key source p =
    option_map (λ receipt. link_key source.link source.forms.receipt receipt.id) (receipt_in p.content)

-- the key of a request of a direction with its response, where they are an accepted message or a delivery receipt
abbrev pub pair_key : SessionForms → Dir → StoredPdu → Option StoredPdu → Option LinkKey
pair_key source FromClient request response = message_key source request response
pair_key source FromCentre request response = receipt_key source request

-- the request of a response that comes after these, among the PDUs of the other direction: of the requests of its sequence number the
-- one of its rank
abbrev pub request_to : List StoredPdu → List StoredPdu → StoredPdu → Option StoredPdu
request_to other earlier p = slice_get (requests_numbered other p.seq) (count_by (is_response_of p.seq) (headers_of earlier))

-- the response to a PDU that comes after these, or its request, among the PDUs of the other direction: that of its sequence number
-- and rank
abbrev pub partner_of : List StoredPdu → List StoredPdu → StoredPdu → Option StoredPdu
partner_of other earlier p =
    if is_request (header_of p) then response_to other earlier p
    else if is_response (header_of p) then request_to other earlier p
    else None

-- the key of a PDU of a direction, where it has this partner
abbrev pub key_with : SessionForms → Dir → StoredPdu → Option StoredPdu → Option LinkKey
key_with source dir p partner =
    if is_request (header_of p) then pair_key source dir p partner
    else option_and_then (λ request. pair_key source (opposite dir) request (Some p)) partner
