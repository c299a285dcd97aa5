-- What one PDU more changes.
use Rattle.std.specs.Prelude.{◌≡◌, ◌≢◌, ◌⊎◌, Bool, true, false, ◌==◌, ◌&&◌, ◌||◌, not, nat_lt, List, [], ◌∷◌, ◌++◌, map, Option, Some, None, is_none}
use Rattle.std.specs.List.{list_all, list_any}
use Rattle.std.specs.List.Sorted.{IsStrictlySortedBy}
use Rattle.std.specs.Ordering.{eq_by_cmp}
use Rattle.smq_kit.specs.declared.place.Dir.{Dir}
use Rattle.smq_kit.specs.declared.place.Dir.TheVariants.{FromClient, FromCentre}
use Rattle.smq_kit.specs.declared.place.Place.{Place}
use Rattle.smq_kit.specs.Orders.{dir_cmp, place_cmp}
use Rattle.smq_pdu.specs.Header.{Header}
use Rattle.smq_pdu.specs.Pairing.{is_request, is_response}
use Rattle.smq_pair.specs.declared.pairing.Pair.{Pair}
use Rattle.smq_pair.specs.Pairing.{PlacedHeader, PairingValue, pdus_from, pair_at, waiting, strays}

-- one PDU more, the last of its direction
abbrev pub pushed_in : Dir → PairingValue → PlacedHeader → PairingValue
pushed_in FromClient v p = record v { client = v.client ++ p ∷ [] }
pushed_in FromCentre v p = record v { centre = v.centre ++ p ∷ [] }

abbrev pub pushed : PairingValue → PlacedHeader → PairingValue
pushed v p = pushed_in p.place.dir v p

-- the places of all PDUs, the client's first
abbrev pub places : PairingValue → List Place
places v = map (λ p. p.place) (v.client ++ v.centre)

-- whether a PDU is of a direction
abbrev pub is_from : Dir → PlacedHeader → Bool
is_from dir p = eq_by_cmp dir_cmp p.place.dir dir

-- The PDUs stand in order: each in its direction, and by place, so that those of one direction ascend by offset.
pub record AreInOrder (v : PairingValue) : Type 0 where
  pub client : list_all (λ p. is_from FromClient p) v.client ≡ true
  pub centre : list_all (λ p. is_from FromCentre p) v.centre ≡ true
  pub ascend : IsStrictlySortedBy place_cmp (places v)

-- A place comes next: it is of the session of the PDUs that came, and its offset is above those of its direction.
pub record IsNext (v : PairingValue) (place : Place) : Type 0 where
  pub session : list_all (λ p. p.place.session.0 == place.session.0) (v.client ++ v.centre) ≡ true
  pub offset : list_all (λ p. nat_lt p.place.offset place.offset) (pdus_from place.dir v) ≡ true

-- the places of the pair that is made, or the place of the PDU alone
abbrev pub touched : Place → Option Pair → List Place
touched place None = place ∷ []
touched place (Some pair) = pair.request ∷ pair.response ∷ []

-- whether a place is among these
abbrev pub is_among : Place → List Place → Bool
is_among q places = list_any (eq_by_cmp place_cmp q) places

-- the pair that the next PDU makes, if any
abbrev pub made_by : PairingValue → PlacedHeader → Option Pair
made_by v p = pair_at (pushed v p) p.place

-- whether a place is that of the request, or of the response, of a pair that is made
abbrev pub is_request_in : Place → Option Pair → Bool
is_request_in q None = false
is_request_in q (Some pair) = eq_by_cmp place_cmp q pair.request

abbrev pub is_response_in : Place → Option Pair → Bool
is_response_in q None = false
is_response_in q (Some pair) = eq_by_cmp place_cmp q pair.response

-- whether a place is that of a PDU which passes a test and makes no pair
abbrev pub is_alone_at : (Header → Bool) → Place → PlacedHeader → Option Pair → Bool
is_alone_at test q p made = eq_by_cmp place_cmp q p.place && (test p.header && is_none made)

-- A pair stands at both of its places, and a place is one of them.
pub record StandsWith (v : PairingValue) (place : Place) (pair : Pair) : Type 0 where
  pub at_request : pair_at v pair.request ≡ Some pair
  pub at_response : pair_at v pair.response ≡ Some pair
  pub own : (place ≡ pair.request) ⊎ (place ≡ pair.response)

-- One PDU more makes one pair at most, of which it is one part. Every other place has the pair that it had, and the
-- requests that wait and the responses that are strays change by that pair's parts and by that PDU alone.
pub record GrowsByOne (v : PairingValue) (p : PlacedHeader) : Type 0 where
  pub in_order : AreInOrder (pushed v p)
  pub others : (q : Place) → is_among q (touched p.place (made_by v p)) ≡ false → pair_at (pushed v p) q ≡ pair_at v q
  pub made : (pair : Pair) → made_by v p ≡ Some pair → StandsWith (pushed v p) p.place pair
  pub waiting : (q : Place) → is_among q (waiting (pushed v p))
      ≡ ((is_among q (waiting v) && not (is_request_in q (made_by v p))) || is_alone_at is_request q p (made_by v p))
  pub strays : (q : Place) → is_among q (strays (pushed v p))
      ≡ ((is_among q (strays v) && not (is_response_in q (made_by v p))) || is_alone_at is_response q p (made_by v p))

-- what holds of each PDU that is next
abbrev pub GrowsByOnePair : Type 0
GrowsByOnePair = (v : PairingValue) (p : PlacedHeader) → AreInOrder v → IsNext v p.place → GrowsByOne v p

-- whichever of two directions is read first, the PDUs are the same
abbrev pub OrderIsIdle : Type 0
OrderIsIdle = (v : PairingValue) (p q : PlacedHeader) → p.place.dir ≢ q.place.dir → pushed (pushed v p) q ≡ pushed (pushed v q) p
