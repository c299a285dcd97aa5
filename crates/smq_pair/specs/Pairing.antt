-- The PDUs of one session by their headers, the pairs of a request and its response among them, and those that stand in
-- none (SMPP 3.4, sections 3.2 and 5.1; that it goes by sequence number and rank is this project's).
use Rattle.std.specs.Prelude.{ℕ, Bool, if◌then◌else◌, List, [], ◌∷◌, ◌++◌, map, filter, count_by, slice_get, Option, None, option_map, option_and_then, is_none}
use Rattle.std.specs.Ordering.{eq_by_cmp}
use Rattle.smq_kit.specs.declared.place.Dir.{Dir}
use Rattle.smq_kit.specs.declared.place.Dir.TheVariants.{FromClient, FromCentre}
use Rattle.smq_kit.specs.declared.place.Place.{Place}
use Rattle.smq_kit.specs.Orders.{place_cmp}
use Rattle.smq_pdu.specs.Header.{Header}
use Rattle.smq_pdu.specs.Pairing.{is_request, is_response, is_request_of, is_response_of, agrees}
use Rattle.smq_pair.specs.declared.pairing.Pair.{Pair}

-- a PDU at its place, as its header says
pub record PlacedHeader : Type 0 where
  pub place : Place
  pub header : Header

-- the PDU at a place with these words in its header
abbrev pub placed_header : Place → ℕ → ℕ → ℕ → PlacedHeader
placed_header place command status seq =
    record { place = place; header = record { command = command; status = status; seq = seq } }

-- the PDUs of a session, each direction in its order
pub record PairingValue : Type 0 where
  pub client : List PlacedHeader
  pub centre : List PlacedHeader

-- those of one direction
abbrev pub pdus_from : Dir → PairingValue → List PlacedHeader
pdus_from FromClient v = v.client
pdus_from FromCentre v = v.centre

-- the other direction
abbrev pub opposite : Dir → Dir
opposite FromClient = FromCentre
opposite FromCentre = FromClient

-- what their headers say
abbrev pub headers : List PlacedHeader → List Header
headers pdus = map (λ p. p.header) pdus

-- ---- the pair of a PDU

-- the response to a request that comes after these: of the other direction's responses of its sequence number the one of
-- its rank among requests
abbrev pub response_to : List PlacedHeader → List PlacedHeader → PlacedHeader → Option PlacedHeader
response_to other earlier p =
    slice_get (filter (λ r. is_response_of p.header.seq r.header) other)
    (count_by (is_request_of p.header.seq) (headers earlier))

-- the request of a response that comes after these, likewise
abbrev pub request_of : List PlacedHeader → List PlacedHeader → PlacedHeader → Option PlacedHeader
request_of other earlier p =
    slice_get (filter (λ r. is_request_of p.header.seq r.header) other)
    (count_by (is_response_of p.header.seq) (headers earlier))

-- a request and its response: where they stand, whether the response agrees, and its command_status
abbrev pub pair_of : PlacedHeader → PlacedHeader → Pair
pair_of request response = record {
  request = request.place;
  response = response.place;
  agrees = agrees request.header response.header;
  status = response.header.status;
}

-- the pair of a PDU that comes after these, with one of the other direction
abbrev pub pair_after : List PlacedHeader → List PlacedHeader → PlacedHeader → Option Pair
pair_after other earlier p =
    if is_request p.header then option_map (λ r. pair_of p r) (response_to other earlier p)
    else (if is_response p.header then option_map (λ r. pair_of r p) (request_of other earlier p) else None)

-- each PDU with those before it
abbrev pub with_earlier : List PlacedHeader → List PlacedHeader → List (List PlacedHeader × PlacedHeader)
with_earlier earlier [] = []
with_earlier earlier (p ∷ later) = (earlier, p) ∷ with_earlier (earlier ++ p ∷ []) later

-- the PDU at a place, with those of its direction before it
abbrev pub standing_at : Place → List PlacedHeader → Option (List PlacedHeader × PlacedHeader)
standing_at place pdus = slice_get (filter (λ e. eq_by_cmp place_cmp place e.1.place) (with_earlier [] pdus)) 0

-- the pair in which the PDU at a place stands
abbrev pub pair_at : PairingValue → Place → Option Pair
pair_at v place =
    option_and_then (λ e. pair_after (pdus_from (opposite place.dir) v) e.0 e.1)
    (standing_at place (pdus_from place.dir v))

-- ---- the PDUs that stand in no pair

-- the places of the PDUs that pass a test, in order: the client's first
abbrev pub places_of : (Header → Bool) → PairingValue → List Place
places_of test v = map (λ p. p.place) (filter (λ p. test p.header) (v.client ++ v.centre))

-- the places of the requests without a response, in order
abbrev pub waiting : PairingValue → List Place
waiting v = filter (λ q. is_none (pair_at v q)) (places_of is_request v)

-- the places of the responses without a request, in order
abbrev pub strays : PairingValue → List Place
strays v = filter (λ q. is_none (pair_at v q)) (places_of is_response v)
