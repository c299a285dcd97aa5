-- Where whole pairs are taken out of a session, what stands at a place that is taken has the pair that it had, so the notes
-- are those at the places that are taken, and the traffic is that of the whole as it is dealt.
use Rattle.std.proofs.Common.{◌≡◌, ℕ, ◌+◌, Bool, true, false, cond, List, [], ◌∷◌, ◌++◌, length, Option, None, refl, sym, ap, ◌∙◌, subst, arith}
use Rattle.std.specs.Prelude.{◌&&◌, map, filter, count_by, slice_get, is_none, option_and_then, option_map}
use Rattle.std.specs.FinMap.{from_entries}
use Rattle.std.specs.Ordering.{eq_by_cmp}
use Rattle.std.proofs.lemmas.Bool.{eq-eqb, true≢false}
use Rattle.std.proofs.lemmas.List.{append-nil, append_assoc}
use Rattle.std.proofs.lemmas.List.Elements.{filter-append}
use Rattle.std.proofs.lemmas.List.Sums.{sum_by-cons}
use Rattle.smq_kit.specs.declared.place.Dir.{Dir}
use Rattle.smq_kit.specs.declared.place.Dir.TheVariants.{FromClient, FromCentre}
use Rattle.smq_kit.specs.declared.place.Place.{Place}
use Rattle.smq_kit.specs.Orders.{place_cmp}
use Rattle.smq_kit.proofs.MapLemmas as maps
use Rattle.smq_kit.proofs.PlaceOrders.{places_total, places_exact}
use Rattle.smq_pdu.specs.Header.{Header}
use Rattle.smq_pdu.specs.Pairing.{is_request, is_request_of, is_response, is_response_of}
use Rattle.smq_pair.specs.declared.pairing.Pair.{Pair}
use Rattle.smq_pair.specs.Pairing.{PairingValue, PlacedHeader, headers, opposite, pair_after, pair_at, pair_of, pdus_from, places_of, request_of, response_to, standing_at, strays, waiting, with_earlier}
use Rattle.smq_tally.specs.declared.list.List.TheVariants as list
use Rattle.smq_tally.specs.declared.list.Listed.{Listed}
use Rattle.smq_tally.specs.Lists.{listed, listed_set}
use Rattle.smq_present.specs.present.Content.{Content}
use Rattle.smq_present.specs.declared.present.kept.StoredPdu.{StoredPdu}
use Rattle.smq_present.specs.present.Kept.{header_of, is_undecodable, is_unreadable}
use Rattle.smq_present.specs.pairing.Dealt.{KeepsPairsTogether, KeepsResponses, pdus_taken, requests_numbered, takes, traffic_among}
use Rattle.smq_present.specs.pairing.Traffic.{Origin, content_notes, disagrees, messages_among, mismatched, notes_among, pairing_among, pairing_notes, place_of, placed, places_where, receipts_among, responses_of, undecodable, unreadable}
use Rattle.smq_present.specs.whole.Dealt.{dealt}
use Rattle.smq_present.specs.within.Pairs.{SubmitsAreRequests}
use Rattle.smq_present.proofs.lemmas.pairing.PairsTaken.{Alike, alike-each, messages-taken, receipts-taken, same-rank}
use Rattle.smq_present.proofs.lemmas.whole.DealtByKey.{filter-swap, retained}
use Rattle.smq_present.proofs.lemmas.whole.ListsDealtByKey.{filter-map, note_here, set-kept}

count-placed : (test : Header → Bool) (xs : List PlacedHeader) → count_by test (headers xs) ≡ length (filter (λ x. test x.header) xs)
count-placed test [] = refl
count-placed test (x ∷ xs) = sum_by-cons (λ h. cond (test h) 1 0) x.header (headers xs) ∙ by (test x.header) (count-placed test xs)
  where
    by : (b : Bool) → count_by test (headers xs) ≡ length (filter (λ x. test x.header) xs)
        → cond b 1 0 + count_by test (headers xs)
        ≡ length (cond b (x ∷ filter (λ x. test x.header) xs) (filter (λ x. test x.header) xs))
    by true ih = omega (arith, ih)
    by false ih = omega (arith, ih)

alike-map : {A B C D : Type 0} (f : A → Bool) (g : B → Bool) (h : C → A) (k : D → B) (es : List C) (rs : List D)
    → Alike (λ c. f (h c)) (λ d. g (k d)) es rs → Alike f g (map h es) (map k rs)
alike-map f g h k [] [] a = tt
alike-map f g h k [] (r ∷ rs) a = tt
alike-map f g h k (e ∷ es) [] a = tt
alike-map f g h k (e ∷ es) (r ∷ rs) a = (a.0, alike-map f g h k es rs a.1)

module _ (here : Place → Bool) where
  -- ---- PDUs at their places

  abbrev put : PlacedHeader → Bool
  put x = here x.place

  abbrev kept : List PlacedHeader → List PlacedHeader
  kept xs = filter put xs

  -- requests and responses of a direction are taken with their partners in the other
  record BothAlike (own other : List PlacedHeader) : Type 0 where
    pub requests : (seq : ℕ) → Alike put put (filter (λ x. is_request_of seq x.header) own) (filter (λ x. is_response_of seq x.header) other)
    pub responses : (seq : ℕ) → Alike put put (filter (λ x. is_response_of seq x.header) own) (filter (λ x. is_request_of seq x.header) other)

  -- the partner of a PDU that is taken is the same
  partner-kept : (test : Header → Bool) (partners : PlacedHeader → Bool) (earlier later other : List PlacedHeader) (x : PlacedHeader)
      → Alike put put (filter (λ x. test x.header) (earlier ++ x ∷ later)) (filter partners other) → test x.header ≡ true → put x ≡ true
      → slice_get (filter partners (kept other)) (count_by test (headers (kept earlier)))
      ≡ slice_get (filter partners other) (count_by test (headers earlier))
  partner-kept test partners earlier later other x a is taken =
      (λ i. slice_get (filter-swap put partners other i)
      ((count-placed test (kept earlier) ∙ ap length (filter-swap put (λ x. test x.header) earlier)) i))
      ∙ same-rank put put (filter (λ x. test x.header) earlier) x (filter (λ x. test x.header) later) (filter partners other)
      (subst (λ es. Alike put put es (filter partners other))
      (filter-append (λ x. test x.header) earlier (x ∷ later)
      ∙ ap (λ b. filter (λ x. test x.header) earlier ++ cond b (x ∷ filter (λ x. test x.header) later) (filter (λ x. test x.header) later)) is) a)
      taken
      ∙ ap (slice_get (filter partners other)) (sym (count-placed test earlier))

  pair-kept : (earlier later other : List PlacedHeader) (x : PlacedHeader) → BothAlike (earlier ++ x ∷ later) other → put x ≡ true
      → pair_after (kept other) (kept earlier) x ≡ pair_after other earlier x
  pair-kept earlier later other x both taken = by (is_request x.header) refl (is_response x.header) refl
    where
      by : (a : Bool) → is_request x.header ≡ a → (b : Bool) → is_response x.header ≡ b
          → cond a (option_map (λ r. pair_of x r) (response_to (kept other) (kept earlier) x))
          (cond b (option_map (λ r. pair_of r x) (request_of (kept other) (kept earlier) x)) None)
          ≡ cond a (option_map (λ r. pair_of x r) (response_to other earlier x))
          (cond b (option_map (λ r. pair_of r x) (request_of other earlier x)) None)
      by true request b h =
          ap (option_map (λ r. pair_of x r))
          (partner-kept (is_request_of x.header.seq) (λ r. is_response_of x.header.seq r.header) earlier later other x
          (both.requests x.header.seq) (λ i. request i && eq-eqb x.header.seq x.header.seq refl i) taken)
      by false q true response =
          ap (option_map (λ r. pair_of r x))
          (partner-kept (is_response_of x.header.seq) (λ r. is_request_of x.header.seq r.header) earlier later other x
          (both.responses x.header.seq) (λ i. response i && eq-eqb x.header.seq x.header.seq refl i) taken)
      by false q false h = refl

  module _ (q : Place) (is_here : here q ≡ true) (other : List PlacedHeader) where
    abbrev at_q : List PlacedHeader × PlacedHeader → Bool
    at_q e = eq_by_cmp place_cmp q e.1.place

    abbrev first : List PlacedHeader → List (List PlacedHeader × PlacedHeader) → Option Pair
    first partners es = option_and_then (λ e. pair_after partners e.0 e.1) (slice_get (filter at_q es) 0)

    first-kept : (earlier later : List PlacedHeader) → BothAlike (earlier ++ later) other
        → first (kept other) (with_earlier (kept earlier) (kept later)) ≡ first other (with_earlier earlier later)
    first-kept earlier [] both = refl
    first-kept earlier (x ∷ later) both =
        by (at_q (earlier, x)) refl (put x) refl
        (first-kept (earlier ++ x ∷ []) later (subst (λ xs. BothAlike xs other) (sym (append_assoc earlier (x ∷ []) later)) both))
      where
        front : (b : Bool) → put x ≡ b → kept earlier ++ cond b (x ∷ []) [] ≡ kept (earlier ++ x ∷ [])
        front b h = ap (λ b. kept earlier ++ cond b (x ∷ []) []) (sym h) ∙ sym (filter-append put earlier (x ∷ []))

        step : (t : Bool) → at_q (earlier, x) ≡ t → first (kept other) (with_earlier (kept earlier) (x ∷ kept later))
            ≡ option_and_then (λ e. pair_after (kept other) e.0 e.1)
            (slice_get (cond t ((kept earlier, x) ∷ filter at_q (with_earlier (kept earlier ++ x ∷ []) (kept later)))
            (filter at_q (with_earlier (kept earlier ++ x ∷ []) (kept later)))) 0)
        step t is = ap (λ t. option_and_then (λ e. pair_after (kept other) e.0 e.1)
            (slice_get (cond t ((kept earlier, x) ∷ filter at_q (with_earlier (kept earlier ++ x ∷ []) (kept later)))
            (filter at_q (with_earlier (kept earlier ++ x ∷ []) (kept later)))) 0)) is

        by : (t : Bool) → at_q (earlier, x) ≡ t → (b : Bool) → put x ≡ b
            → first (kept other) (with_earlier (kept (earlier ++ x ∷ [])) (kept later)) ≡ first other (with_earlier (earlier ++ x ∷ []) later)
            → first (kept other) (with_earlier (kept earlier) (cond b (x ∷ kept later) (kept later)))
            ≡ option_and_then (λ e. pair_after other e.0 e.1)
            (slice_get (cond t ((earlier, x) ∷ filter at_q (with_earlier (earlier ++ x ∷ []) later))
            (filter at_q (with_earlier (earlier ++ x ∷ []) later))) 0)
        by true t true h ih = step true t ∙ pair-kept earlier later other x both h
        by true t false h ih =
            absurd (true≢false (sym is_here ∙ ap here (maps.same_key places_total places_exact q x.place t) ∙ h))
        by false t true h ih =
            step false t ∙ ap (λ xs. first (kept other) (with_earlier xs (kept later))) (front true h) ∙ ih
        by false t false h ih =
            ap (λ xs. first (kept other) (with_earlier xs (kept later))) (sym (append-nil (kept earlier)) ∙ front false h) ∙ ih

  -- ---- notes of pairs

  abbrev part : PairingValue → PairingValue
  part v = record { client = kept v.client; centre = kept v.centre }

  module _ (v : PairingValue) (of_client : BothAlike v.client v.centre) (of_centre : BothAlike v.centre v.client) where
    pair-same : (q : Place) → here q ≡ true → pair_at (part v) q ≡ pair_at v q
    pair-same q h = by q.dir
      where
        by : (d : Dir)
            → option_and_then (λ e. pair_after (pdus_from (opposite d) (part v)) e.0 e.1) (standing_at q (pdus_from d (part v)))
            ≡ option_and_then (λ e. pair_after (pdus_from (opposite d) v) e.0 e.1) (standing_at q (pdus_from d v))
        by FromClient = first-kept q h v.centre [] v.client of_client
        by FromCentre = first-kept q h v.client [] v.centre of_centre

    places-part : (test : Header → Bool) → places_of test (part v) ≡ filter here (places_of test v)
    places-part test =
        ap (λ xs. map (λ (x : PlacedHeader). x.place) (filter (λ x. test x.header) xs)) (sym (filter-append put v.client v.centre))
        ∙ ap (map (λ (x : PlacedHeader). x.place)) (filter-swap put (λ x. test x.header) (v.client ++ v.centre))
        ∙ sym (filter-map here (λ (x : PlacedHeader). x.place) (filter (λ x. test x.header) (v.client ++ v.centre)))

    agree-here : (one other : Place → Bool) → ((q : Place) → here q ≡ true → one q ≡ other q) → (qs : List Place)
        → filter one (filter here qs) ≡ filter other (filter here qs)
    agree-here one other same [] = refl
    agree-here one other same (q ∷ qs) = by (here q) refl (agree-here one other same qs)
      where
        by : (b : Bool) → here q ≡ b → filter one (filter here qs) ≡ filter other (filter here qs)
            → filter one (cond b (q ∷ filter here qs) (filter here qs)) ≡ filter other (cond b (q ∷ filter here qs) (filter here qs))
        by true h ih = λ i. cond (same q h i) (q ∷ ih i) (ih i)
        by false h ih = ih

    -- what is found of the pairs of places
    found-part : (found : Option Pair → Bool) (test : Header → Bool)
        → filter (λ q. found (pair_at (part v) q)) (places_of test (part v)) ≡ filter here (filter (λ q. found (pair_at v q)) (places_of test v))
    found-part found test =
        ap (filter (λ q. found (pair_at (part v) q))) (places-part test)
        ∙ agree-here (λ q. found (pair_at (part v) q)) (λ q. found (pair_at v q)) (λ q h. ap found (pair-same q h)) (places_of test v)
        ∙ filter-swap here (λ q. found (pair_at v q)) (places_of test v)

    pairing-part : pairing_notes (part v) ≡ filter (note_here here) (pairing_notes v)
    pairing-part =
        (λ i. map (listed list.Waiting) (found-part is_none is_request i)
        ++ map (listed list.StrayAnswers) (found-part is_none is_response i)
        ++ map (listed list.Mismatched) (found-part disagrees is_request i))
        ∙ (λ i. sym (filter-map (note_here here) (listed list.Waiting) (waiting v)) i
        ++ sym (filter-map (note_here here) (listed list.StrayAnswers) (strays v)) i
        ++ sym (filter-map (note_here here) (listed list.Mismatched) (mismatched v)) i)
        ∙ ap (λ (xs : List Listed). xs ++ filter (note_here here) (map (listed list.Mismatched) (mismatched v)))
        (sym (filter-append (note_here here) (map (listed list.Waiting) (waiting v)) (map (listed list.StrayAnswers) (strays v))))
        ∙ sym (filter-append (note_here here) (map (listed list.Waiting) (waiting v) ++ map (listed list.StrayAnswers) (strays v))
        (map (listed list.Mismatched) (mismatched v)))

  -- ---- notes of a session

  module _ (origin : Origin) where
    where-taken : (test : Content → Bool) (dir : Dir) (pdus : List StoredPdu)
        → places_where test origin dir (pdus_taken here origin dir pdus) ≡ filter here (places_where test origin dir pdus)
    where-taken test dir pdus =
        ap (map (place_of origin dir)) (filter-swap (takes here origin dir) (λ p. test p.content) pdus)
        ∙ sym (filter-map here (place_of origin dir) (filter (λ p. test p.content) pdus))

    contents-taken : (client centre : List StoredPdu)
        → content_notes origin (pdus_taken here origin FromClient client) (pdus_taken here origin FromCentre centre)
        ≡ filter (note_here here) (content_notes origin client centre)
    contents-taken client centre =
        (λ i. map (listed list.Unreadable) (where-taken is_unreadable FromCentre centre i)
        ++ map (listed list.Undecodable) ((where-taken is_undecodable FromClient client i) ++ (where-taken is_undecodable FromCentre centre i)))
        ∙ ap (λ (qs : List Place). map (listed list.Unreadable) (filter here (unreadable origin centre)) ++ map (listed list.Undecodable) qs)
        (sym (filter-append here (places_where is_undecodable origin FromClient client) (places_where is_undecodable origin FromCentre centre)))
        ∙ (λ i. sym (filter-map (note_here here) (listed list.Unreadable) (unreadable origin centre)) i
        ++ sym (filter-map (note_here here) (listed list.Undecodable) (undecodable origin client centre)) i)
        ∙ sym (filter-append (note_here here) (map (listed list.Unreadable) (unreadable origin centre))
        (map (listed list.Undecodable) (undecodable origin client centre)))

    alike-placed : (one two : Header → Bool) (d e : Dir) (ps rs : List StoredPdu)
        → Alike (takes here origin d) (takes here origin e) (filter (λ p. one (header_of p)) ps) (filter (λ p. two (header_of p)) rs)
        → Alike put put (filter (λ (x : PlacedHeader). one x.header) (map (placed origin d) ps))
        (filter (λ (x : PlacedHeader). two x.header) (map (placed origin e) rs))
    alike-placed one two d e ps rs a =
        subst (λ xs. Alike put put xs (filter (λ (x : PlacedHeader). two x.header) (map (placed origin e) rs)))
        (sym (filter-map (λ (x : PlacedHeader). one x.header) (placed origin d) ps))
        (subst (λ ys. Alike put put (map (placed origin d) (filter (λ p. one (header_of p)) ps)) ys)
        (sym (filter-map (λ (x : PlacedHeader). two x.header) (placed origin e) rs))
        (alike-map put put (placed origin d) (placed origin e) (filter (λ p. one (header_of p)) ps) (filter (λ p. two (header_of p)) rs) a))

    both-alike : (d e : Dir) (own other : List StoredPdu) → KeepsResponses here origin d e own other → KeepsResponses here origin e d other own
        → BothAlike (map (placed origin d) own) (map (placed origin e) other)
    both-alike d e own other asks answers = record {
      requests = λ seq. alike-placed (is_request_of seq) (is_response_of seq) d e own other
          (alike-each (takes here origin d) (takes here origin e) (requests_numbered own seq) (responses_of other seq) (asks seq));
      responses = λ seq. alike-placed (is_response_of seq) (is_request_of seq) d e own other
          (alike-each (takes here origin d) (takes here origin e) (responses_of own seq) (requests_numbered other seq)
          (λ n response request at asked. sym (answers seq n request response asked at)));
    }

    pairing-taken : (client centre : List StoredPdu)
        → pairing_among origin (pdus_taken here origin FromClient client) (pdus_taken here origin FromCentre centre)
        ≡ part (pairing_among origin client centre)
    pairing-taken client centre = λ i. record {
      client = sym (filter-map put (placed origin FromClient) client) i;
      centre = sym (filter-map put (placed origin FromCentre) centre) i;
    }

    -- the notes of the PDUs that are taken are those at the places that are taken
    pub notes-taken : (client centre : List StoredPdu) → KeepsPairsTogether here origin client centre
        → notes_among origin (pdus_taken here origin FromClient client) (pdus_taken here origin FromCentre centre)
        ≡ filter (note_here here) (notes_among origin client centre)
    notes-taken client centre keeps =
        (λ i. (ap pairing_notes (pairing-taken client centre)
        ∙ pairing-part (pairing_among origin client centre)
        (both-alike FromClient FromCentre client centre keeps.client_asks keeps.centre_asks)
        (both-alike FromCentre FromClient centre client keeps.centre_asks keeps.client_asks)) i
        ++ contents-taken client centre i)
        ∙ sym (filter-append (note_here here) (pairing_notes (pairing_among origin client centre)) (content_notes origin client centre))

    -- ---- traffic of a session

    -- what the PDUs that are taken say is what all say, at the places that are taken
    pub traffic-taken : (client centre : List StoredPdu) → SubmitsAreRequests client → KeepsPairsTogether here origin client centre
        → traffic_among origin (pdus_taken here origin FromClient client) (pdus_taken here origin FromCentre centre)
        ≡ dealt here (traffic_among origin client centre)
    traffic-taken client centre asks keeps = λ i. record {
      messages = (ap (from_entries {R = place_cmp}) (messages-taken here origin client centre asks keeps)
          ∙ sym (retained here (messages_among origin client centre))) i;
      receipts = (ap (from_entries {R = place_cmp}) (receipts-taken here origin centre)
          ∙ sym (retained here (receipts_among origin centre))) i;
      notes = (ap listed_set (notes-taken client centre keeps) ∙ set-kept here (notes_among origin client centre)) i;
    }
