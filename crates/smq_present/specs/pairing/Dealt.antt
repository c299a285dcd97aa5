-- The PDUs of a session that are dealt to parts by their places, and what keeps pairs together.
use Rattle.std.specs.Prelude.{◌≡◌, ℕ, Bool, List, filter, slice_get, Some}
use Rattle.std.specs.FinMap.{from_entries}
use Rattle.smq_kit.specs.declared.place.Dir.{Dir}
use Rattle.smq_kit.specs.declared.place.Dir.TheVariants.{FromClient, FromCentre}
use Rattle.smq_kit.specs.declared.place.Place.{Place}
use Rattle.smq_pdu.specs.Pairing.{is_request_of}
use Rattle.smq_tally.specs.Lists.{listed_set}
use Rattle.smq_present.specs.declared.present.kept.StoredPdu.{StoredPdu}
use Rattle.smq_present.specs.present.Kept.{header_of}
use Rattle.smq_present.specs.pairing.Traffic.{Origin, TrafficValue, messages_among, notes_among, place_of, receipts_among, responses_of}

-- whether a test takes the place of a PDU
abbrev pub takes : (Place → Bool) → Origin → Dir → StoredPdu → Bool
takes here origin dir p = here (place_of origin dir p)

-- the PDUs of a direction whose places a test takes, in their order
abbrev pub pdus_taken : (Place → Bool) → Origin → Dir → List StoredPdu → List StoredPdu
pdus_taken here origin dir pdus = filter (takes here origin dir) pdus

-- the requests of a sequence number, in order
abbrev pub requests_numbered : List StoredPdu → ℕ → List StoredPdu
requests_numbered pdus seq = filter (λ p. is_request_of seq (header_of p)) pdus

-- a test takes both of a request of a direction and the response of its sequence number and rank in the other, or neither
abbrev pub KeepsResponses : (Place → Bool) → Origin → Dir → Dir → List StoredPdu → List StoredPdu → Type 0
KeepsResponses here origin dir other asking answering =
    (seq rank : ℕ) (request response : StoredPdu)
    → slice_get (requests_numbered asking seq) rank ≡ Some request
    → slice_get (responses_of answering seq) rank ≡ Some response
    → takes here origin dir request ≡ takes here origin other response

-- A test takes whole pairs of a session: no request of the client or of the centre is parted from its response.
pub record KeepsPairsTogether (here : Place → Bool) (origin : Origin) (client centre : List StoredPdu) : Type 0 where
  pub client_asks : KeepsResponses here origin FromClient FromCentre client centre
  pub centre_asks : KeepsResponses here origin FromCentre FromClient centre client

-- what the PDUs of a session say: its messages, its delivery receipts and the places that need a look
abbrev pub traffic_among : Origin → List StoredPdu → List StoredPdu → TrafficValue
traffic_among origin client centre = record {
  messages = from_entries (messages_among origin client centre);
  receipts = from_entries (receipts_among origin centre);
  notes = listed_set (notes_among origin client centre);
}
