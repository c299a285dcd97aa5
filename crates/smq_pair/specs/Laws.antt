-- Pairs by rank: what the pairs of a session are in the words of smq_pdu's relation.
use Rattle.std.specs.Prelude.{◌≡◌, ◌⊎◌, ℕ, slice_get, Some}
use Rattle.smq_kit.specs.declared.place.Dir.{Dir}
use Rattle.smq_kit.specs.declared.place.Place.{Place}
use Rattle.smq_pdu.specs.Pairing.{IsPair}
use Rattle.smq_pair.specs.declared.pairing.Pair.{Pair}
use Rattle.smq_pair.specs.Pairing.{PlacedHeader, PairingValue, pdus_from, opposite, headers, pair_of, pair_at}
use Rattle.smq_pair.specs.Growth.{AreInOrder, StandsWith}

-- The i-th PDU of a direction and the j-th of the other are a request and its response by sequence number and rank.
pub record IsPairByRank (v : PairingValue) (dir : Dir) (i j : ℕ) (request response : PlacedHeader) : Type 0 where
  pub request_at : slice_get (pdus_from dir v) i ≡ Some request
  pub response_at : slice_get (pdus_from (opposite dir) v) j ≡ Some response
  pub by_rank : IsPair (headers (pdus_from dir v)) (headers (pdus_from (opposite dir) v)) i j request.header response.header

-- What is found at a place is such a pair, one of whose places it is.
pub record IsFoundByRank (v : PairingValue) (q : Place) (pair : Pair) : Type 0 where
  pub dir : Dir
  pub i : ℕ
  pub j : ℕ
  pub request : PlacedHeader
  pub response : PlacedHeader
  pub by_rank : IsPairByRank v dir i j request response
  pub is : pair ≡ pair_of request response
  pub place : (q ≡ request.place) ⊎ (q ≡ response.place)

abbrev pub FindsPairs : Type 0
FindsPairs =
    (v : PairingValue) (q : Place) (pair : Pair) → AreInOrder v → pair_at v q ≡ Some pair → IsFoundByRank v q pair

-- each such pair is found at both of its places
abbrev pub FindsEachPair : Type 0
FindsEachPair = (v : PairingValue) (dir : Dir) (i j : ℕ) (request response : PlacedHeader) → AreInOrder v
    → IsPairByRank v dir i j request response
    → (pair_at v request.place ≡ Some (pair_of request response)) × (pair_at v response.place ≡ Some (pair_of request response))

-- a pair that is found at a place is found at its two places, of which that is one
abbrev pub HasTwoPlaces : Type 0
HasTwoPlaces = (v : PairingValue) (q : Place) (pair : Pair) → AreInOrder v → pair_at v q ≡ Some pair → StandsWith v q pair
