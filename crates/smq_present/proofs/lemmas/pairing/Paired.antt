-- The pairs of a session by the places of its PDUs: a request's has the response of its sequence number and rank.
use Rattle.std.proofs.Common.{◌≡◌, ℕ, ◌+◌, ◌<◌, ◌≤◌, Bool, true, false, cond, List, [], ◌∷◌, ◌++◌, Option, Some, None, refl, sym, ap, ◌∙◌, arith, append_assoc, append-nil}
use Rattle.std.specs.Prelude.{◌==◌, ◌&&◌, map, filter, slice_get, count_by, option_map, option_and_then}
use Rattle.std.specs.List.{list_all}
use Rattle.std.specs.Cmp.{tied_itself}
use Rattle.std.specs.Ordering.{eq_by_cmp, is_eq}
use Rattle.std.proofs.lemmas.Bool.Decides.{nat_tests}
use Rattle.std.proofs.lemmas.List.Folds.{list_all-append}
use Rattle.std.proofs.lemmas.Option.{slice_get-map}
use Rattle.smq_kit.specs.declared.place.Dir.{Dir}
use Rattle.smq_kit.specs.declared.place.Dir.TheVariants.{FromClient, FromCentre}
use Rattle.smq_kit.specs.declared.place.Place.{Place}
use Rattle.smq_kit.specs.Orders.{place_cmp}
use Rattle.smq_kit.proofs.MapLemmas.{same_key}
use Rattle.smq_kit.proofs.PlaceOrders.{places_total, places_exact}
use Rattle.smq_pdu.specs.Header.{Header}
use Rattle.smq_pdu.specs.Pairing.{is_request, is_response, is_request_of, is_response_of}
use Rattle.smq_pair.specs.declared.pairing.Pair.{Pair}
use Rattle.smq_pair.specs.Pairing as pairs
use Rattle.smq_pair.specs.Pairing.{PlacedHeader, headers, pair_of, pair_after, pair_at}
use Rattle.smq_present.specs.declared.present.kept.StoredPdu.{StoredPdu}
use Rattle.smq_present.specs.present.Kept.{header_of, headers_of}
use Rattle.smq_present.specs.pairing.Traffic.{Origin, place_of, placed, pairing_among, response_to, responses_of, rank_after}
use Rattle.smq_present.specs.within.Pairs.{Rises}

-- ---- PDUs at their places

itself : (q : Place) → eq_by_cmp place_cmp q q ≡ true
itself q = ap is_eq (tied_itself places_total q)

-- a PDU after others stands above the bound from which they rise
pub above : (low : ℕ) (before after : List StoredPdu) (p : StoredPdu) → Rises low (before ++ p ∷ after) → low ≤ p.offset
above low [] after p r = r.0
above low (x ∷ before) after p r = let more : x.offset + 1 ≤ p.offset = above (x.offset + 1) before after p r.1 in omega (arith, r.0, more)

module _ (o : Origin) (d : Dir) where
  other : (p x : StoredPdu) → x.offset < p.offset → eq_by_cmp place_cmp (place_of o d p) (place_of o d x) ≡ false
  other p x h = by_test (eq_by_cmp place_cmp (place_of o d p) (place_of o d x)) refl
    where
      by_test : (b : Bool) → eq_by_cmp place_cmp (place_of o d p) (place_of o d x) ≡ b → b ≡ false
      by_test true e =
          let same : p.offset ≡ x.offset = ap (λ (q : Place). q.offset) (same_key places_total places_exact (place_of o d p) (place_of o d x) e) in
          absurd (omega (arith, h, same))
      by_test false e = refl

  abbrev standing_from : StoredPdu → List PlacedHeader → List StoredPdu → List (List PlacedHeader × PlacedHeader)
  standing_from p earlier ps = filter (λ e. eq_by_cmp place_cmp (place_of o d p) e.1.place) (pairs.with_earlier earlier (map (placed o d) ps))

  abbrev standing_next : Bool → StoredPdu → List PlacedHeader → StoredPdu → List StoredPdu → Option (List PlacedHeader × PlacedHeader)
  standing_next b p earlier x ps = slice_get (cond b ((earlier, placed o d x) ∷ standing_from p (earlier ++ placed o d x ∷ []) ps)
      (standing_from p (earlier ++ placed o d x ∷ []) ps)) 0

  -- the PDU at the place of one stands after those before that one
  pub standing : (earlier : List PlacedHeader) (low : ℕ) (before after : List StoredPdu) (p : StoredPdu) → Rises low (before ++ p ∷ after)
      → slice_get (standing_from p earlier (before ++ p ∷ after)) 0 ≡ Some (earlier ++ map (placed o d) before, placed o d p)
  standing earlier low [] after p r =
      ap (λ b. standing_next b p earlier p after) (itself (place_of o d p)) ∙ ap (λ es. Some (es, placed o d p)) (sym (append-nil earlier))
  standing earlier low (x ∷ before) after p r =
      ap (λ b. standing_next b p earlier x (before ++ p ∷ after))
      (other p x (let more : x.offset + 1 ≤ p.offset = above (x.offset + 1) before after p r.1 in omega (arith, more)))
      ∙ standing (earlier ++ placed o d x ∷ []) (x.offset + 1) before after p r.1
      ∙ ap (λ es. Some (es, placed o d p)) (append_assoc earlier (placed o d x ∷ []) (map (placed o d) before))

  pub filter-placed : (test : Header → Bool) (ps : List StoredPdu)
      → filter (λ (r : PlacedHeader). test r.header) (map (placed o d) ps) ≡ map (placed o d) (filter (λ p. test (header_of p)) ps)
  filter-placed test [] = refl
  filter-placed test (p ∷ ps) =
      elim (test (header_of p)) as (λ b. cond b (placed o d p ∷ filter (λ (r : PlacedHeader). test r.header) (map (placed o d) ps))
      (filter (λ (r : PlacedHeader). test r.header) (map (placed o d) ps))
      ≡ map (placed o d) (cond b (p ∷ filter (λ p. test (header_of p)) ps) (filter (λ p. test (header_of p)) ps))) [
        | true ↦ ap (λ rs. placed o d p ∷ rs) (filter-placed test ps)
        | false ↦ filter-placed test ps
      ]

  headers-placed : (ps : List StoredPdu) → headers (map (placed o d) ps) ≡ headers_of ps
  headers-placed [] = refl
  headers-placed (p ∷ ps) = ap (λ hs. header_of p ∷ hs) (headers-placed ps)

-- ---- the pair of a request

module _ (o : Origin) where
  -- a request of the client with its response
  abbrev pub pair_with : StoredPdu → StoredPdu → Pair
  pair_with p r = pair_of (placed o FromClient p) (placed o FromCentre r)

  responses-placed : (centre before : List StoredPdu) (p : StoredPdu)
      → pairs.response_to (map (placed o FromCentre) centre) (map (placed o FromClient) before) (placed o FromClient p)
      ≡ option_map (placed o FromCentre) (response_to centre before p)
  responses-placed centre before p =
      (λ i. slice_get (filter-placed o FromCentre (is_response_of p.seq) centre i)
      (count_by (is_request_of p.seq) (headers-placed o FromClient before i)))
      ∙ slice_get-map (placed o FromCentre) (responses_of centre p.seq) (rank_after before p.seq)

  with_response : (p : StoredPdu) (r : Option StoredPdu)
      → option_map (λ r. pair_of (placed o FromClient p) r) (option_map (placed o FromCentre) r) ≡ option_map (pair_with p) r
  with_response p None = refl
  with_response p (Some r) = refl

  pub request-pair : (before after centre : List StoredPdu) (p : StoredPdu) → Rises 0 (before ++ p ∷ after) → is_request (header_of p) ≡ true
      → pair_at (pairing_among o (before ++ p ∷ after) centre) (place_of o FromClient p) ≡ option_map (pair_with p) (response_to centre before p)
  request-pair before after centre p rises request =
      let other_side = map (placed o FromCentre) centre in
      let earlier = map (placed o FromClient) before in
      let here = placed o FromClient p in
      ap (option_and_then (λ e. pair_after other_side e.0 e.1)) (standing o FromClient [] 0 before after p rises)
      ∙ ap (λ b. cond b (option_map (λ r. pair_of here r) (pairs.response_to other_side earlier here))
      (cond (is_response (header_of p)) (option_map (λ r. pair_of r here) (pairs.request_of other_side earlier here)) None))
      request
      ∙ ap (option_map (λ r. pair_of here r)) (responses-placed centre before p)
      ∙ with_response p (response_to centre before p)

-- ---- the PDUs of a session

module _ (o : Origin) where
  of_session : (d : Dir) (ps : List StoredPdu) → list_all (λ (p : PlacedHeader). p.place.session.0 == o.session.0) (map (placed o d) ps) ≡ true
  of_session d [] = refl
  of_session d (p ∷ ps) = let same : (o.session.0 == o.session.0) ≡ true = grind (arith, nat_tests) in (λ i. same i && of_session d ps i)

  pub of_both : (client centre : List StoredPdu)
      → list_all (λ (p : PlacedHeader). p.place.session.0 == o.session.0) (map (placed o FromClient) client
      ++ map (placed o FromCentre) centre) ≡ true
  of_both client centre =
      list_all-append (λ (p : PlacedHeader). p.place.session.0 == o.session.0) (map (placed o FromClient) client) (map (placed o FromCentre) centre)
      ∙ (λ i. of_session FromClient client i && of_session FromCentre centre i)
