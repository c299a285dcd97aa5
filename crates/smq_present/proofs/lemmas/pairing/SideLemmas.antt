-- The pair at the place of a PDU is with its partner, so that notes by partners are those by pairs.
use Rattle.std.proofs.Common.{◌≡◌, ℕ, ◌+◌, Bool, true, false, cond, ◌&&◌, List, [], ◌∷◌, ◌++◌, take, drop, take-append-drop, append_assoc, Option, Some, None, refl, sym, ap, ◌∙◌, subst}
use Rattle.std.specs.Prelude.{map, filter, slice_get, count_by, option_map, option_and_then, is_none}
use Rattle.std.specs.List.{flat_map}
use mathlib.Core.List.{map-map}
use Rattle.std.proofs.lemmas.Bool.{cond-false, cond-true}
use Rattle.std.proofs.lemmas.List.{drop_more, map-append}
use Rattle.std.proofs.lemmas.List.Elements.{filter-append}
use Rattle.std.proofs.lemmas.Option.{slice_get_within, slice_get-map, get_or_from_slice_get}
use Rattle.smq_kit.specs.declared.names.SessionId.{SessionId}
use Rattle.smq_kit.specs.declared.place.Dir.{Dir}
use Rattle.smq_kit.specs.declared.place.Dir.TheVariants.{FromClient, FromCentre}
use Rattle.smq_kit.specs.declared.place.Place.{Place}
use Rattle.smq_pdu.specs.Header.{Header}
use Rattle.smq_pdu.specs.Pairing.{is_request, is_response, is_request_of, is_response_of}
use Rattle.smq_pair.specs.declared.pairing.Pair.{Pair}
use Rattle.smq_pair.specs.Pairing as pairs
use Rattle.smq_pair.specs.Pairing.{PlacedHeader, headers, pair_of, pair_after, pair_at, pdus_from, places_of, standing_at}
use Rattle.smq_pair.proofs.Turned.{not-request}
use Rattle.smq_tally.specs.declared.list.List.{List as ListName}
use Rattle.smq_tally.specs.declared.list.List.TheVariants as list
use Rattle.smq_tally.specs.declared.list.Listed.{Listed}
use Rattle.smq_tally.specs.Lists.{listed}
use Rattle.smq_present.specs.present.Content.{Content}
use Rattle.smq_present.specs.declared.present.kept.StoredPdu.{StoredPdu}
use Rattle.smq_present.specs.present.Kept.{header_of, headers_of, is_undecodable, is_unreadable}
use Rattle.smq_present.specs.pairing.Traffic.{Origin, place_of, placed, pairing_among, disagrees, notes_among, places_where}
use Rattle.smq_present.specs.within.Pairs.{Rises, from_session}
use Rattle.smq_present.proofs.lemmas.pairing.Paired.{standing, filter-placed}
use Rattle.smq_present.specs.declared.pairing.sides.Side.{Side}
use Rattle.smq_present.specs.declared.pairing.sides.Kind.{Kind}
use Rattle.smq_present.specs.declared.pairing.sides.Kind.TheVariants.{Request, Response}
use Rattle.smq_present.specs.within.Turns.{is_turn, turns_of, partner_after, partner_at, HasPartners}
use Rattle.smq_present.specs.within.Sides.{IsSide, IsPaired, pairing_in, disagrees_with, is_noted, is_noted_by, note_of, noted, noted_in}

-- ---- the pair at a place

headers-placed : (o : Origin) (d : Dir) (ps : List StoredPdu) → headers (map (placed o d) ps) ≡ headers_of ps
headers-placed o d ps = map-map (λ (p : PlacedHeader). p.header) (placed o d) ps

turn-placed : (o : Origin) (d : Dir) (kind : Kind) (seq n : ℕ) (ps : List StoredPdu)
    → slice_get (filter (λ (r : PlacedHeader). is_turn kind seq r.header) (map (placed o d) ps)) n
    ≡ option_map (placed o d) (slice_get (turns_of kind seq ps) n)
turn-placed o d kind seq n ps = ap (λ rs. slice_get rs n) (filter-placed o d (is_turn kind seq) ps) ∙ slice_get-map (placed o d) (turns_of kind seq ps) n

mine-from : (d : Dir) (o : Origin) (mine other : List StoredPdu) → pdus_from d (pairing_in d o mine other) ≡ map (placed o d) mine
mine-from FromClient o mine other = refl
mine-from FromCentre o mine other = refl

other-from : (d : Dir) (o : Origin) (mine other : List StoredPdu)
    → pdus_from (pairs.opposite d) (pairing_in d o mine other) ≡ map (placed o (pairs.opposite d)) other
other-from FromClient o mine other = refl
other-from FromCentre o mine other = refl

and-same : (a b c : Bool) → (a ≡ true → b ≡ c) → (a && b) ≡ (a && c)
and-same true b c h = h refl
and-same false b c h = refl

none-same : {A B C : Type 0} (f : B → C) (g : A → B) (x : Option A) → is_none (option_map f (option_map g x)) ≡ is_none x
none-same f g None = refl
none-same f g (Some x) = refl

module _ (o : Origin) (d : Dir) (mine other : List StoredPdu) (rises : Rises 0 mine) (i : ℕ) (p : StoredPdu) (at : slice_get mine i ≡ Some p) where
  abbrev here : PlacedHeader
  here = placed o d p

  abbrev there : StoredPdu → PlacedHeader
  there r = placed o (pairs.opposite d) r

  abbrev earlier : List PlacedHeader
  earlier = map (placed o d) (take i mine)

  abbrev pair : Option Pair
  pair = pair_at (pairing_in d o mine other) (place_of o d p)

  split : mine ≡ take i mine ++ p ∷ drop (i + 1) mine
  split = sym (take-append-drop i mine) ∙ ap (λ ps. take i mine ++ ps) (drop_more mine i p (slice_get_within mine i p at)
      ∙ ap (λ (q : StoredPdu). q ∷ drop (i + 1) mine) (get_or_from_slice_get mine i p p at))

  pair-here : pair ≡ pair_after (map there other) earlier here
  pair-here =
      (λ k. option_and_then (λ e. pair_after (other-from d o mine other k) e.0 e.1) (standing_at (place_of o d p)
      ((mine-from d o mine other ∙ ap (map (placed o d)) split) k)))
      ∙ ap (option_and_then (λ e. pair_after (map there other) e.0 e.1))
      (standing o d [] 0 (take i mine) (drop (i + 1) mine) p (subst (λ ps. Rises 0 ps) split rises))

  request-pair : is_request (header_of p) ≡ true
      → pair ≡ option_map (λ r. pair_of here r) (option_map there (partner_after Request other (take i mine) p))
  request-pair request =
      pair-here
      ∙ cond-true (is_request (header_of p)) _ _ request
      ∙ ap (option_map (λ r. pair_of here r)) (ap (λ hs. slice_get (filter (λ (r : PlacedHeader). is_response_of p.seq r.header) (map there other))
      (count_by (is_request_of p.seq) hs)) (headers-placed o d (take i mine))
      ∙ turn-placed o (pairs.opposite d) Response p.seq (count_by (is_request_of p.seq) (headers_of (take i mine))) other)

  response-pair : is_response (header_of p) ≡ true
      → pair ≡ option_map (λ r. pair_of r here) (option_map there (partner_after Response other (take i mine) p))
  response-pair response =
      pair-here
      ∙ cond-false (is_request (header_of p)) _ _ (not-request (header_of p) response) ∙ cond-true (is_response (header_of p)) _ _ response
      ∙ ap (option_map (λ r. pair_of r here)) (ap (λ hs. slice_get (filter (λ (r : PlacedHeader). is_request_of p.seq r.header) (map there other))
      (count_by (is_response_of p.seq) hs)) (headers-placed o d (take i mine))
      ∙ turn-placed o (pairs.opposite d) Request p.seq (count_by (is_response_of p.seq) (headers_of (take i mine))) other)

  disagrees-same : (r : Option StoredPdu) → disagrees_with p r ≡ disagrees (option_map (λ r. pair_of here r) (option_map there r))
  disagrees-same None = refl
  disagrees-same (Some r) = refl

  -- what is noted by partners is noted by pairs
  pub noted-same : (responses requests : List (Option ℕ)) (l : ListName) → HasPartners Request mine other responses
      → HasPartners Response mine other requests
      → is_noted_by l (partner_at responses other i) (partner_at requests other i) p ≡ is_noted l (pairing_in d o mine other) (place_of o d p) p
  noted-same responses requests list.Waiting hr hq = and-same (is_request (header_of p)) _ _ (λ request.
      ap is_none (hr i p (slice_get_within mine i p at) at request)
      ∙ sym (ap is_none (request-pair request) ∙ none-same (λ r. pair_of here r) there (partner_after Request other (take i mine) p)))
  noted-same responses requests list.StrayAnswers hr hq = and-same (is_response (header_of p)) _ _ (λ response.
      ap is_none (hq i p (slice_get_within mine i p at) at response)
      ∙ sym (ap is_none (response-pair response) ∙ none-same (λ r. pair_of r here) there (partner_after Response other (take i mine) p)))
  noted-same responses requests list.Mismatched hr hq = and-same (is_request (header_of p)) _ _ (λ request.
      ap (disagrees_with p) (hr i p (slice_get_within mine i p at) at request)
      ∙ disagrees-same (partner_after Request other (take i mine) p) ∙ ap disagrees (sym (request-pair request)))
  noted-same responses requests _ hr hq = refl

-- ---- a side

-- what is noted of it is what is noted of its PDUs
pub noted-side : (l : ListName) (session : SessionId) (d : Dir) (mine other : List StoredPdu) (side : Side) → IsSide session d mine other side
    → noted l side ≡ noted_in l (from_session session) d mine other
noted-side l session d mine other side is = λ k. noted_in l (from_session (is.session k)) (is.dir k) (is.pdus k) (is.other k)

-- a PDU of it is in a list where that is said by its partners
pub noted-at : (side : Side) (l : ListName) (i : ℕ) (p : StoredPdu) (response request : Option StoredPdu) (b : Bool) → IsPaired side
    → slice_get side.pdus.now i ≡ Some p → response ≡ partner_at side.responses.items side.other.now i
    → request ≡ partner_at side.requests.items side.other.now i → b ≡ is_noted_by l response request p
    → cond b (listed l (place_of (from_session side.session) side.dir p) ∷ []) []
    ≡ note_of l (pairing_in side.dir (from_session side.session) side.pdus.now side.other.now) (from_session side.session) side.dir p
noted-at side l i p response request b paired at r q is =
    ap (λ b. cond b (listed l (place_of (from_session side.session) side.dir p) ∷ []) []) (is ∙ (λ k. is_noted_by l (r k) (q k) p)
    ∙ noted-same (from_session side.session) side.dir side.pdus.now side.other.now paired.rises i p at side.responses.items side.requests.items l
    paired.responses paired.requests)

-- ---- notes, list by list

module _ (l : ListName) (o : Origin) where
  -- a direction's places that pass a test, where those of PDUs that pass another stand
  one-side : (at : Place → Bool) (test : Header → Bool) (d : Dir) (ps : List StoredPdu)
      → map (listed l) (filter at (map (λ (p : PlacedHeader). p.place) (filter (λ (p : PlacedHeader). test p.header) (map (placed o d) ps))))
      ≡ flat_map (λ p. cond (test (header_of p) && at (place_of o d p)) (listed l (place_of o d p) ∷ []) []) ps
  one-side at test d [] = refl
  one-side at test d (p ∷ ps) =
      let q = place_of o d p in
      let rest = map (λ (p : PlacedHeader). p.place) (filter (λ (p : PlacedHeader). test p.header) (map (placed o d) ps)) in
      let later = flat_map (λ p. cond (test (header_of p) && at (place_of o d p)) (listed l (place_of o d p) ∷ []) []) ps in
      elim (test (header_of p)) as (λ a. map (listed l) (filter at (map (λ (p : PlacedHeader). p.place)
      (cond a (placed o d p ∷ filter (λ (p : PlacedHeader). test p.header) (map (placed o d) ps))
      (filter (λ (p : PlacedHeader). test p.header) (map (placed o d) ps)))))
      ≡ cond (a && at q) (listed l q ∷ []) [] ++ later) [
        | true ↦ elim (at q) as (λ b. map (listed l) (cond b (q ∷ filter at rest) (filter at rest)) ≡ cond b (listed l q ∷ []) [] ++ later) [
          | true ↦ ap (λ ns. listed l q ∷ ns) (one-side at test d ps)
          | false ↦ one-side at test d ps
        ]
        | false ↦ one-side at test d ps
      ]

  both-sides : (at : Place → Bool) (test : Header → Bool) (client centre : List StoredPdu)
      → map (listed l) (filter at (places_of test (pairing_among o client centre)))
      ≡ flat_map (λ p. cond (test (header_of p) && at (place_of o FromClient p)) (listed l (place_of o FromClient p) ∷ []) []) client
      ++ flat_map (λ p. cond (test (header_of p) && at (place_of o FromCentre p)) (listed l (place_of o FromCentre p) ∷ []) []) centre
  both-sides at test client centre =
      let passes = λ (p : PlacedHeader). test p.header in
      let place = λ (p : PlacedHeader). p.place in
      let cs = map (placed o FromClient) client in
      let ss = map (placed o FromCentre) centre in
      ap (λ ps. map (listed l) (filter at (map place ps))) (filter-append passes cs ss)
      ∙ ap (λ qs. map (listed l) (filter at qs)) (map-append place (filter passes cs) (filter passes ss))
      ∙ ap (map (listed l)) (filter-append at (map place (filter passes cs)) (map place (filter passes ss)))
      ∙ map-append (listed l) (filter at (map place (filter passes cs))) (filter at (map place (filter passes ss)))
      ∙ (λ k. one-side at test FromClient client k ++ one-side at test FromCentre centre k)

  where-noted : (test : Content → Bool) (d : Dir) (ps : List StoredPdu) → map (listed l) (places_where test o d ps)
      ≡ flat_map (λ p. cond (test p.content) (listed l (place_of o d p) ∷ []) []) ps
  where-noted test d [] = refl
  where-noted test d (p ∷ ps) = elim (test p.content) as (λ b. map (listed l) (map (place_of o d) (cond b (p ∷ filter (λ p. test p.content) ps) (filter (λ p. test p.content) ps)))
      ≡ cond b (listed l (place_of o d p) ∷ []) [] ++ flat_map (λ p. cond (test p.content) (listed l (place_of o d p) ∷ []) []) ps) [
        | true ↦ ap (λ ns. listed l (place_of o d p) ∷ ns) (where-noted test d ps)
        | false ↦ where-noted test d ps
      ]

module _ (o : Origin) (client centre : List StoredPdu) where
  -- those of both directions
  abbrev pub noted_both : ListName → List Listed
  noted_both l = noted_in l o FromClient client centre ++ noted_in l o FromCentre centre client

  joined : (old w s m u d b : List Listed) → (((((old ++ w) ++ s) ++ m) ++ u) ++ d) ++ b ≡ old ++ (((w ++ s ++ m) ++ (u ++ d)) ++ b)
  joined old w s m u d b = simp append_assoc

  -- the notes of both directions, with those of where they are broken
  pub notes-are : (old b : List Listed)
      → (((((old ++ noted_both list.Waiting) ++ noted_both list.StrayAnswers) ++ noted_both list.Mismatched)
      ++ noted_in list.Unreadable o FromCentre centre client) ++ noted_both list.Undecodable) ++ b
      ≡ old ++ (notes_among o client centre ++ b)
  notes-are old b =
      let v = pairing_among o client centre in
      joined old (noted_both list.Waiting) (noted_both list.StrayAnswers) (noted_both list.Mismatched)
      (noted_in list.Unreadable o FromCentre centre client) (noted_both list.Undecodable) b
      ∙ sym (λ k. old ++ (((both-sides list.Waiting o (λ q. is_none (pair_at v q)) is_request client centre k
      ++ both-sides list.StrayAnswers o (λ q. is_none (pair_at v q)) is_response client centre k
      ++ both-sides list.Mismatched o (λ q. disagrees (pair_at v q)) is_request client centre k)
      ++ (where-noted list.Unreadable o is_unreadable FromCentre centre k
      ++ (map-append (listed list.Undecodable) (places_where is_undecodable o FromClient client) (places_where is_undecodable o FromCentre centre)
      ∙ (λ j. where-noted list.Undecodable o is_undecodable FromClient client j ++ where-noted list.Undecodable o is_undecodable FromCentre centre j)) k))
      ++ b))

  pub broken-are : (old : List Listed) (xs ys : List Place) → (old ++ map (listed list.Broken) xs) ++ map (listed list.Broken) ys
      ≡ old ++ map (listed list.Broken) (xs ++ ys)
  broken-are old xs ys = append_assoc old (map (listed list.Broken) xs) (map (listed list.Broken) ys)
      ∙ ap (λ ns. old ++ ns) (sym (map-append (listed list.Broken) xs ys))
