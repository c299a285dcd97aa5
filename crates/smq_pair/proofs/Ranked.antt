-- The pairs that are found are those by rank, each at both of its places.
use Rattle.std.proofs.Common.{◌≡◌, ℕ, inl, inr, Bool, true, false, cond, List, Option, Some, None, refl, sym, ap, ◌∙◌, subst}
use Rattle.std.specs.Prelude.{option_and_then, option_map, slice_get}
use Rattle.std.proofs.lemmas.Bool.{and_parts}
use Rattle.std.proofs.lemmas.Option.{option_and_then_some, slice_get-map}
use Rattle.smq_kit.specs.declared.place.Dir.{Dir}
use Rattle.smq_kit.specs.declared.place.Place.{Place}
use Rattle.smq_pdu.specs.Header.{Header}
use Rattle.smq_pdu.specs.Pairing.{IsPair, is_request, is_response, is_request_of, response_rank}
use Rattle.smq_pdu.proofs.Pairs.{stands, finds_pairs, finds_each}
use Rattle.smq_pair.specs.declared.paired_pdu.Role.TheVariants.{Request, Response}
use Rattle.smq_pair.specs.declared.pairing.Pair.{Pair}
use Rattle.smq_pair.specs.Pairing.{PlacedHeader, PairingValue, pdus_from, opposite, headers, pair_of, pair_at}
use Rattle.smq_pair.specs.Growth.{AreInOrder}
use Rattle.smq_pair.specs.Laws.{IsPairByRank, IsFoundByRank, FindsPairs, FindsEachPair, HasTwoPlaces}
use Rattle.smq_pair.specs.within.Turns.{headers_from, index_at, partner, partner_of, turn_of}
use Rattle.smq_pair.proofs.Lists.{some-is, never, one_of}
use Rattle.smq_pair.proofs.Turned.{opposite-back, not-request, partner-back, side-request, side-response, turn-found, turn-there}
use Rattle.smq_pair.proofs.Standing.{there-or-not, partner-side, partner-neither, pair_with, pair_either, pair-here, pair-nowhere}

-- ---- partners by rank

pub header-at : (ps : List PlacedHeader) (i : ℕ) (p : PlacedHeader) → slice_get ps i ≡ Some p → slice_get (headers ps) i ≡ Some p.header
header-at ps i p at = slice_get-map (λ (p : PlacedHeader). p.header) ps i ∙ ap (option_map (λ (p : PlacedHeader). p.header)) at

-- what is the partner of a header has it for its own
linked-back : (v : PairingValue) (d : Dir) (i j : ℕ) (h k : Header) → slice_get (headers_from d v) i ≡ Some h → slice_get (headers_from (opposite d) v) j ≡ Some k
    → partner_of v d i h ≡ Some j → partner_of v (opposite d) j k ≡ Some i
linked-back v d i j h k at there e = option_and_then_some (λ t. index_at v (partner t)) (turn_of v d i h) j e (λ t is met.
    let its = turn-found v d i h t at is in
    ap (option_and_then (λ t. index_at v (partner t))) (turn-there v (partner t) (opposite d) j k (ap opposite its.0) met there)
    ∙ ap (index_at v) (partner-back t) ∙ its.1)

-- ---- each pair by rank is found

module _ (v : PairingValue) (d : Dir) (i j : ℕ) (request response : PlacedHeader) (o : AreInOrder v)
    (by : IsPairByRank v d i j request response) where
  partner-is : partner_of v d i request.header ≡ Some j
  partner-is =
      partner-side v d i request.header Request (side-request request.header by.by_rank.is_request)
      ∙ finds_each (headers_from d v) (headers_from (opposite d) v) i j request.header response.header by.by_rank

  at-request : pair_at v request.place ≡ Some (pair_of request response)
  at-request =
      pair-here v d i request o by.request_at
      ∙ ap (pair_with v d request) partner-is
      ∙ ap (option_map (pair_either request)) by.response_at
      ∙ ap (λ b. Some (cond b (pair_of request response) (pair_of response request))) by.by_rank.is_request

  at-response : pair_at v response.place ≡ Some (pair_of request response)
  at-response =
      pair-here v (opposite d) j response o by.response_at
      ∙ ap (pair_with v (opposite d) response) (linked-back v d i j request.header response.header by.by_rank.request_at by.by_rank.response_at partner-is)
      ∙ ap (λ (d' : Dir). option_map (pair_either response) (slice_get (pdus_from d' v) i)) (opposite-back d)
      ∙ ap (option_map (pair_either response)) by.request_at
      ∙ ap (λ b. Some (cond b (pair_of response request) (pair_of request response))) (not-request response.header by.by_rank.is_response)

pub finds-each-pair : FindsEachPair
finds-each-pair v d i j request response o by = (at-request v d i j request response o by, at-response v d i j request response o by)

-- ---- what is found is a pair by rank

-- the PDU is the request
of-request : (v : PairingValue) (d : Dir) (i j : ℕ) (p r : PlacedHeader) → slice_get (pdus_from d v) i ≡ Some p → is_request p.header ≡ true
    → partner_of v d i p.header ≡ Some j → slice_get (pdus_from (opposite d) v) j ≡ Some r → IsPairByRank v d i j p r
of-request v d i j p r at e is there =
    let pair = finds_pairs (headers_from d v) (headers_from (opposite d) v) i j p.header (header-at (pdus_from d v) i p at) e
    (sym (partner-side v d i p.header Request (side-request p.header e)) ∙ is) in
    let same : pair.0 ≡ r.header = one_of (slice_get (headers_from (opposite d) v) j) pair.0 r.header (pair.1).response_at
    (header-at (pdus_from (opposite d) v) j r there) in
    record {
      request_at = at;
      response_at = there;
      by_rank =
          subst (λ (h : Header). IsPair (headers_from d v) (headers_from (opposite d) v) i j p.header h) same pair.1;
    }

module _ (v : PairingValue) (d : Dir) (i : ℕ) (p : PlacedHeader) (at : slice_get (pdus_from d v) i ≡ Some p) where
  -- the PDU is the response
  of-response : (j : ℕ) (r : PlacedHeader) → is_response p.header ≡ true → partner_of v d i p.header ≡ Some j
      → slice_get (pdus_from (opposite d) v) j ≡ Some r → IsPairByRank v (opposite d) j i r p
  of-response j r e is there =
      let s = stands (is_request_of p.header.seq) (headers_from (opposite d) v) (response_rank (headers_from d v) i p.header.seq) j
      (sym (partner-side v d i p.header Response (side-response p.header e)) ∙ is) in
      let header = header-at (pdus_from (opposite d) v) j r there in
      let same : s.element ≡ r.header = one_of (slice_get (headers_from (opposite d) v) j) s.element r.header s.there header in
      of-request v (opposite d) j i r p there (ap is_request (sym same) ∙ (and_parts (is_request s.element) _ s.passes).0)
      (linked-back v d i j p.header r.header (header-at (pdus_from d v) i p at) header is) (ap (λ (d' : Dir). slice_get (pdus_from d' v) i) (opposite-back d) ∙ at)

  found-by-rank : (pair : Pair) → AreInOrder v → pair_at v p.place ≡ Some pair → IsFoundByRank v p.place pair
  found-by-rank pair o e = option_and_then_some (λ j. option_map (pair_either p) (slice_get (pdus_from (opposite d) v) j)) (partner_of v d i p.header) pair
      (sym (pair-here v d i p o at) ∙ e) (λ j is h. by_other j is (slice_get (pdus_from (opposite d) v) j) refl (is_request p.header) (is_response p.header) refl refl h)
    where
      by_other : (j : ℕ) → partner_of v d i p.header ≡ Some j → (x : Option PlacedHeader) → slice_get (pdus_from (opposite d) v) j ≡ x
          → (a b : Bool) → is_request p.header ≡ a → is_response p.header ≡ b → option_map (pair_either p) x ≡ Some pair → IsFoundByRank v p.place pair
      by_other j is None there a b e f h = absurd cc
      by_other j is (Some r) there true b e f h = record {
        dir = d;
        i = i;
        j = j;
        request = p;
        response = r;
        by_rank = of-request v d i j p r at e is there;
        is = sym (some-is (pair_either p r) pair h) ∙ ap (λ b. cond b (pair_of p r) (pair_of r p)) e;
        place = inl refl;
      }
      by_other j is (Some r) there false true e f h = record {
        dir = opposite d;
        i = j;
        j = i;
        request = r;
        response = p;
        by_rank = of-response j r f is there;
        is = sym (some-is (pair_either p r) pair h) ∙ ap (λ b. cond b (pair_of p r) (pair_of r p)) e;
        place = inr refl;
      }
      by_other j is (Some r) there false false e f h = never (partner_of v d i p.header) j (partner-neither v d i p.header e f) is

pub finds-pairs : FindsPairs
finds-pairs v q pair o e = elim (there-or-not (pdus_from q.dir v) q) [
  | inl t ↦ subst (λ (q : Place). IsFoundByRank v q pair) t.is (found-by-rank v q.dir t.index t.pdu t.at pair o (ap (pair_at v) t.is ∙ e))
  | inr none ↦ never (pair_at v q) pair (pair-nowhere v q none) e
]

-- ---- and stands at two places

pub has-two-places : HasTwoPlaces
has-two-places v q pair o e =
    let f = finds-pairs v q pair o e in
    let each = finds-each-pair v f.dir f.i f.j f.request f.response o f.by_rank in
    record {
      at_request = ap (λ (x : Pair). pair_at v x.request) f.is ∙ each.0 ∙ ap Some (sym f.is);
      at_response = ap (λ (x : Pair). pair_at v x.response) f.is ∙ each.1 ∙ ap Some (sym f.is);
      own = elim f.place [ inl h ↦ inl (h ∙ ap (λ (x : Pair). x.request) (sym f.is)) | inr h ↦ inr (h ∙ ap (λ (x : Pair). x.response) (sym f.is)) ];
    }
