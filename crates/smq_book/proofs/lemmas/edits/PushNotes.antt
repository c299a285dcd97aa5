-- One PDU more changes the notes of its session at its own place and at that of the PDU with which it is a pair.
use Rattle.std.proofs.Common.{◌≡◌, ℕ, ◌+◌, ◌≤◌, Bool, true, false, cond, ◌||◌, inl, inr, List, [], ◌∷◌, ◌++◌, Option, Some, None, refl, sym, ap, ◌∙◌, subst, arith}
use Rattle.std.specs.Prelude.{◌&&◌, not, nat_lt, map, filter}
use Rattle.std.specs.List.{list_all, list_any}
use Rattle.std.specs.List.Sorted.{IsStrictlySortedBy}
use Rattle.std.specs.Ordering.{eq_by_cmp}
use Rattle.std.proofs.lemmas.Bool.Decides.{nat_tests}
use Rattle.std.proofs.lemmas.List.{append-nil, append_assoc, map-append}
use Rattle.std.proofs.lemmas.List.Folds.{list_any-append}
use Rattle.std.proofs.lemmas.Map.Views.{any-filter_same}
use Rattle.smq_kit.specs.declared.place.Dir.{Dir}
use Rattle.smq_kit.specs.declared.place.Dir.TheVariants.{FromClient, FromCentre}
use Rattle.smq_kit.specs.declared.place.Place.{Place}
use Rattle.smq_kit.specs.Orders.{place_cmp}
use Rattle.smq_kit.proofs.Comparisons.{or_first, or_second}
use Rattle.smq_kit.proofs.MapLemmas.{same_key}
use Rattle.smq_kit.proofs.PlaceOrders.{places_total, places_exact}
use Rattle.smq_pdu.specs.Header.{Header}
use Rattle.smq_pdu.specs.Pairing.{is_request, is_response}
use Rattle.smq_pair.specs.declared.pairing.Pair.{Pair}
use Rattle.smq_pair.specs.Pairing.{PlacedHeader, PairingValue, pair_at, places_of, waiting, strays}
use Rattle.smq_pair.specs.Growth.{AreInOrder, IsNext, GrowsByOne, pushed, pushed_in, made_by, touched, is_request_in, is_response_in, is_alone_at}
use Rattle.smq_pair.proofs.Grown.{grows}
use Rattle.smq_tally.specs.declared.list.List.TheVariants as list
use Rattle.smq_tally.specs.declared.list.Listed.{Listed}
use Rattle.smq_tally.specs.Lists.{listed_cmp}
use Rattle.smq_present.specs.declared.present.kept.StoredPdu.{StoredPdu}
use Rattle.smq_present.specs.present.Kept.{is_undecodable, is_unreadable}
use Rattle.smq_present.specs.pairing.Traffic.{Origin, place_of, placed, pairing_among, places_where, disagrees, mismatched, unreadable, undecodable, notes_among}
use Rattle.smq_present.specs.within.Pairs.{Rises}
use Rattle.smq_present.proofs.lemmas.join.NotedTraffic.{any-notes, five, one_list}
use Rattle.smq_book.specs.edits.Appended.{noted_by, noted_in_turn}
use Rattle.smq_present.proofs.lemmas.pairing.Paired.{of_both, above}
use Rattle.smq_present.specs.join.Listings.{same_list}

-- ---- an element more, which isn't at a place

module _ {A : Type 0} (f : A → Place) (test : A → Bool) (q : Place) where
  abbrev among : List A → Bool
  among xs = list_any (eq_by_cmp place_cmp q) (map f (filter test xs))

  among-without : (xs ys : List A) (x : A) → eq_by_cmp place_cmp q (f x) ≡ false → among (xs ++ x ∷ ys) ≡ among (xs ++ ys)
  among-without [] ys x h = elim (test x) as (λ b. list_any (eq_by_cmp place_cmp q) (map f (cond b (x ∷ filter test ys) (filter test ys))) ≡ among ys) [
    | true ↦ ap (λ b. b || among ys) h
    | false ↦ refl
  ]
  among-without (y ∷ xs) ys x h = elim (test y) as (λ b. list_any (eq_by_cmp place_cmp q) (map f (cond b (y ∷ filter test (xs ++ x ∷ ys)) (filter test (xs ++ x ∷ ys)))) ≡ list_any (eq_by_cmp place_cmp q) (map f (cond b (y ∷ filter test (xs ++ ys)) (filter test (xs ++ ys))))) [
    | true ↦ ap (λ b. eq_by_cmp place_cmp q (f y) || b) (among-without xs ys x h)
    | false ↦ among-without xs ys x h
  ]

  pub among-push : (xs : List A) (x : A) → eq_by_cmp place_cmp q (f x) ≡ false → among (xs ++ x ∷ []) ≡ among xs
  among-push xs x h = among-without xs [] x h ∙ ap among (append-nil xs)

-- ---- a PDU more among pairs

and_false : (a b : Bool) → (a && (b && false)) ≡ false
and_false true true = refl
and_false true false = refl
and_false false b = refl

module _ (v : PairingValue) (p : PlacedHeader) (g : GrowsByOne v p) (q : Place) where
  module _ (made : Option Pair) (out : list_any (eq_by_cmp place_cmp q) (touched p.place made) ≡ false) where
    no-request : is_request_in q made ≡ false
    no-request = by made out
      where
        by : (m : Option Pair) → list_any (eq_by_cmp place_cmp q) (touched p.place m) ≡ false → is_request_in q m ≡ false
        by None h = refl
        by (Some pair) h = or_first _ _ h

    no-response : is_response_in q made ≡ false
    no-response = by made out
      where
        by : (m : Option Pair) → list_any (eq_by_cmp place_cmp q) (touched p.place m) ≡ false → is_response_in q m ≡ false
        by None h = refl
        by (Some pair) h = or_first _ _ (or_second (eq_by_cmp place_cmp q pair.request) _ h)

    not-alone : (test : Header → Bool) → is_alone_at test q p made ≡ false
    not-alone test = by made out
      where
        by : (m : Option Pair) → list_any (eq_by_cmp place_cmp q) (touched p.place m) ≡ false → is_alone_at test q p m ≡ false
        by None h = ap (λ b. b && (test p.header && true)) (or_first _ _ h)
        by (Some pair) h = and_false (eq_by_cmp place_cmp q p.place) (test p.header)

  not-own : (m : Option Pair) → made_by v p ≡ m → list_any (eq_by_cmp place_cmp q) (touched p.place m) ≡ false → eq_by_cmp place_cmp q p.place ≡ false
  not-own None is h = or_first _ _ h
  not-own (Some pair) is h = elim ((g.made pair is).own) as (λ _. eq_by_cmp place_cmp q p.place ≡ false) [
    | inl same ↦ ap (eq_by_cmp place_cmp q) same ∙ or_first _ _ h
    | inr same ↦ ap (eq_by_cmp place_cmp q) same ∙ or_first _ _ (or_second (eq_by_cmp place_cmp q pair.request) _ h)
  ]

  kept_so : (a b c : Bool) → b ≡ false → c ≡ false → ((a && not b) || c) ≡ a
  kept_so true b c h k = (λ i. not (h i) || k i)
  kept_so false b c h k = k

  module _ (out : list_any (eq_by_cmp place_cmp q) (touched p.place (made_by v p)) ≡ false) where
    pub apart : eq_by_cmp place_cmp q p.place ≡ false
    apart = not-own (made_by v p) refl out

    pub waiting-stay : list_any (eq_by_cmp place_cmp q) (waiting (pushed v p)) ≡ list_any (eq_by_cmp place_cmp q) (waiting v)
    waiting-stay = g.waiting q ∙ kept_so (list_any (eq_by_cmp place_cmp q) (waiting v)) (is_request_in q (made_by v p)) (is_alone_at is_request q p (made_by v p)) (no-request (made_by v p) out) (not-alone (made_by v p) out is_request)

    pub strays-stay : list_any (eq_by_cmp place_cmp q) (strays (pushed v p)) ≡ list_any (eq_by_cmp place_cmp q) (strays v)
    strays-stay = g.strays q ∙ kept_so (list_any (eq_by_cmp place_cmp q) (strays v)) (is_response_in q (made_by v p)) (is_alone_at is_response q p (made_by v p)) (no-response (made_by v p) out) (not-alone (made_by v p) out is_response)

    requests-stay : list_any (eq_by_cmp place_cmp q) (places_of is_request (pushed v p)) ≡ list_any (eq_by_cmp place_cmp q) (places_of is_request v)
    requests-stay = by p.place.dir
      where
        by : (d : Dir) → list_any (eq_by_cmp place_cmp q) (places_of is_request (pushed_in d v p)) ≡ list_any (eq_by_cmp place_cmp q) (places_of is_request v)
        by FromClient =
            ap (λ (ps : List PlacedHeader). list_any (eq_by_cmp place_cmp q) (map (λ x. x.place) (filter (λ x. is_request x.header) ps))) (append_assoc v.client (p ∷ []) v.centre)
            ∙ among-without (λ x. x.place) (λ x. is_request x.header) q v.client v.centre p apart
        by FromCentre =
            ap (λ (ps : List PlacedHeader). list_any (eq_by_cmp place_cmp q) (map (λ x. x.place) (filter (λ x. is_request x.header) ps))) (sym (append_assoc v.client v.centre (p ∷ [])))
            ∙ among-push (λ x. x.place) (λ x. is_request x.header) q (v.client ++ v.centre) p apart

    mismatched-at : (w : PairingValue) → list_any (eq_by_cmp place_cmp q) (mismatched w) ≡ (disagrees (pair_at w q) && list_any (eq_by_cmp place_cmp q) (places_of is_request w))
    mismatched-at w = any-filter_same (eq_by_cmp place_cmp q) (λ k. disagrees (pair_at w k)) (disagrees (pair_at w q)) (λ k t. ap (λ k. disagrees (pair_at w k)) (sym (same_key places_total places_exact q k t))) (places_of is_request w)

    pub mismatched-stay : list_any (eq_by_cmp place_cmp q) (mismatched (pushed v p)) ≡ list_any (eq_by_cmp place_cmp q) (mismatched v)
    mismatched-stay = mismatched-at (pushed v p) ∙ (λ i. disagrees (g.others q out i) && requests-stay i) ∙ sym (mismatched-at v)

-- ---- the notes of a session, list by list

module _ (origin : Origin) where
  -- what the next PDU of the client leaves
  pub client-notes : (client centre : List StoredPdu) (next : StoredPdu) (e : Listed) → GrowsByOne (pairing_among origin client centre) (placed origin FromClient next)
      → list_any (eq_by_cmp place_cmp e.place) (noted_by origin FromClient client centre next) ≡ false
      → list_any (eq_by_cmp listed_cmp e) (notes_among origin (client ++ next ∷ []) centre) ≡ list_any (eq_by_cmp listed_cmp e) (notes_among origin client centre)
  client-notes client centre next e g out =
      let v = pairing_among origin client centre in
      let p = placed origin FromClient next in
      let grown : pairing_among origin (client ++ next ∷ []) centre ≡ pushed v p = λ i. record { client = map-append (placed origin FromClient) client (next ∷ []) i; centre = map (placed origin FromCentre) centre } in
      let own = apart v p g e.place out in
      let undecoded : list_any (eq_by_cmp place_cmp e.place) (undecodable origin (client ++ next ∷ []) centre) ≡ list_any (eq_by_cmp place_cmp e.place) (undecodable origin client centre) =
      list_any-append (eq_by_cmp place_cmp e.place) (places_where is_undecodable origin FromClient (client ++ next ∷ [])) (places_where is_undecodable origin FromCentre centre)
      ∙ ap (λ b. b || list_any (eq_by_cmp place_cmp e.place) (places_where is_undecodable origin FromCentre centre)) (among-push (place_of origin FromClient) (λ (p : StoredPdu). is_undecodable p.content) e.place client next own)
      ∙ sym (list_any-append (eq_by_cmp place_cmp e.place) (places_where is_undecodable origin FromClient client) (places_where is_undecodable origin FromCentre centre)) in
      any-notes origin (client ++ next ∷ []) centre e
      ∙ ap (λ w. five e (waiting w) (strays w) (mismatched w) (unreadable origin centre) (undecodable origin (client ++ next ∷ []) centre)) grown
      ∙ (λ i. (((same_list e.list list.Waiting && waiting-stay v p g e.place out i) || (same_list e.list list.StrayAnswers && strays-stay v p g e.place out i)) || (same_list e.list list.Mismatched && mismatched-stay v p g e.place out i))
      || (one_list e list.Unreadable (unreadable origin centre) || (same_list e.list list.Undecodable && undecoded i)))
      ∙ sym (any-notes origin client centre e)

  -- what the next PDU of the centre leaves
  pub centre-notes : (client centre : List StoredPdu) (next : StoredPdu) (e : Listed) → GrowsByOne (pairing_among origin client centre) (placed origin FromCentre next)
      → list_any (eq_by_cmp place_cmp e.place) (noted_by origin FromCentre client centre next) ≡ false
      → list_any (eq_by_cmp listed_cmp e) (notes_among origin client (centre ++ next ∷ [])) ≡ list_any (eq_by_cmp listed_cmp e) (notes_among origin client centre)
  centre-notes client centre next e g out =
      let v = pairing_among origin client centre in
      let p = placed origin FromCentre next in
      let grown : pairing_among origin client (centre ++ next ∷ []) ≡ pushed v p = λ i. record { client = map (placed origin FromClient) client; centre = map-append (placed origin FromCentre) centre (next ∷ []) i } in
      let own = apart v p g e.place out in
      let unread : list_any (eq_by_cmp place_cmp e.place) (unreadable origin (centre ++ next ∷ [])) ≡ list_any (eq_by_cmp place_cmp e.place) (unreadable origin centre) =
      among-push (place_of origin FromCentre) (λ (p : StoredPdu). is_unreadable p.content) e.place centre next own in
      let undecoded : list_any (eq_by_cmp place_cmp e.place) (undecodable origin client (centre ++ next ∷ [])) ≡ list_any (eq_by_cmp place_cmp e.place) (undecodable origin client centre) =
      list_any-append (eq_by_cmp place_cmp e.place) (places_where is_undecodable origin FromClient client) (places_where is_undecodable origin FromCentre (centre ++ next ∷ []))
      ∙ ap (λ b. list_any (eq_by_cmp place_cmp e.place) (places_where is_undecodable origin FromClient client) || b) (among-push (place_of origin FromCentre) (λ (p : StoredPdu). is_undecodable p.content) e.place centre next own)
      ∙ sym (list_any-append (eq_by_cmp place_cmp e.place) (places_where is_undecodable origin FromClient client) (places_where is_undecodable origin FromCentre centre)) in
      any-notes origin client (centre ++ next ∷ []) e
      ∙ ap (λ w. five e (waiting w) (strays w) (mismatched w) (unreadable origin (centre ++ next ∷ [])) (undecodable origin client (centre ++ next ∷ []))) grown
      ∙ (λ i. (((same_list e.list list.Waiting && waiting-stay v p g e.place out i) || (same_list e.list list.StrayAnswers && strays-stay v p g e.place out i)) || (same_list e.list list.Mismatched && mismatched-stay v p g e.place out i))
      || ((same_list e.list list.Unreadable && unread i) || (same_list e.list list.Undecodable && undecoded i)))
      ∙ sym (any-notes origin client centre e)

  -- ---- PDUs of both directions stand in order

  below : (d : Dir) (low : ℕ) (before after : List StoredPdu) (x : StoredPdu) → Rises low (before ++ x ∷ after) → list_all (λ (p : PlacedHeader). nat_lt p.place.offset x.offset) (map (placed origin d) before) ≡ true
  below d low [] after x r = refl
  below d low (y ∷ before) after x r =
      let more : y.offset + 1 ≤ x.offset = above (y.offset + 1) before after x r.1 in
      let less : nat_lt y.offset x.offset ≡ true = grind (arith, nat_tests, more) in
      (λ i. less i && below d (y.offset + 1) before after x r.1 i)

  pub next-client : (client centre after : List StoredPdu) (x : StoredPdu) → Rises 0 (client ++ x ∷ after) → IsNext (pairing_among origin client centre) (place_of origin FromClient x)
  next-client client centre after x r = record { session = of_both origin client centre; offset = below FromClient 0 client after x r }

  pub next-centre : (client centre after : List StoredPdu) (x : StoredPdu) → Rises 0 (centre ++ x ∷ after) → IsNext (pairing_among origin client centre) (place_of origin FromCentre x)
  next-centre client centre after x r = record { session = of_both origin client centre; offset = below FromCentre 0 centre after x r }

  pub client-grows : (client centre after : List StoredPdu) (x : StoredPdu) → Rises 0 (client ++ x ∷ after) → AreInOrder (pairing_among origin client centre) → GrowsByOne (pairing_among origin client centre) (placed origin FromClient x)
  client-grows client centre after x r o = grows (pairing_among origin client centre) (placed origin FromClient x) o (next-client client centre after x r)

  pub centre-grows : (client centre after : List StoredPdu) (x : StoredPdu) → Rises 0 (centre ++ x ∷ after) → AreInOrder (pairing_among origin client centre) → GrowsByOne (pairing_among origin client centre) (placed origin FromCentre x)
  centre-grows client centre after x r o = grows (pairing_among origin client centre) (placed origin FromCentre x) o (next-centre client centre after x r)

  pub client-order : (client centre : List StoredPdu) (x : StoredPdu) → GrowsByOne (pairing_among origin client centre) (placed origin FromClient x) → AreInOrder (pairing_among origin (client ++ x ∷ []) centre)
  client-order client centre x g = subst AreInOrder (λ i. record { client = sym (map-append (placed origin FromClient) client (x ∷ [])) i; centre = map (placed origin FromCentre) centre }) g.in_order

  pub centre-order : (client centre : List StoredPdu) (x : StoredPdu) → GrowsByOne (pairing_among origin client centre) (placed origin FromCentre x) → AreInOrder (pairing_among origin client (centre ++ x ∷ []))
  centre-order client centre x g = subst AreInOrder (λ i. record { client = map (placed origin FromClient) client; centre = sym (map-append (placed origin FromCentre) centre (x ∷ [])) i }) g.in_order

  pub longer : (before : List StoredPdu) (x : StoredPdu) (after : List StoredPdu) → Rises 0 (before ++ x ∷ after) → Rises 0 ((before ++ x ∷ []) ++ after)
  longer before x after r = subst (λ ps. Rises 0 ps) (sym (append_assoc before (x ∷ []) after)) r

  -- ---- PDUs more, in turn

  either : (q : Place) (xs ys : List Place) → list_any (eq_by_cmp place_cmp q) (xs ++ ys) ≡ false → (list_any (eq_by_cmp place_cmp q) xs || list_any (eq_by_cmp place_cmp q) ys) ≡ false
  either q xs ys h = sym (list_any-append (eq_by_cmp place_cmp q) xs ys) ∙ h

  pub client-notes-in-turn : (client centre later : List StoredPdu) (e : Listed) → Rises 0 (client ++ later) → AreInOrder (pairing_among origin client centre)
      → list_any (eq_by_cmp place_cmp e.place) (noted_in_turn origin FromClient client centre later) ≡ false
      → list_any (eq_by_cmp listed_cmp e) (notes_among origin (client ++ later) centre) ≡ list_any (eq_by_cmp listed_cmp e) (notes_among origin client centre)
  client-notes-in-turn client centre [] e r o out = ap (λ ps. list_any (eq_by_cmp listed_cmp e) (notes_among origin ps centre)) (append-nil client)
  client-notes-in-turn client centre (x ∷ later) e r o out =
      let g = client-grows client centre later x r o in
      let parts = either e.place (noted_by origin FromClient client centre x) (noted_in_turn origin FromClient (client ++ x ∷ []) centre later) out in
      ap (λ ps. list_any (eq_by_cmp listed_cmp e) (notes_among origin ps centre)) (sym (append_assoc client (x ∷ []) later))
      ∙ client-notes-in-turn (client ++ x ∷ []) centre later e (longer client x later r) (client-order client centre x g) (or_second (list_any (eq_by_cmp place_cmp e.place) (noted_by origin FromClient client centre x)) _ parts)
      ∙ client-notes client centre x e g (or_first _ _ parts)

  pub centre-notes-in-turn : (client centre later : List StoredPdu) (e : Listed) → Rises 0 (centre ++ later) → AreInOrder (pairing_among origin client centre)
      → list_any (eq_by_cmp place_cmp e.place) (noted_in_turn origin FromCentre client centre later) ≡ false
      → list_any (eq_by_cmp listed_cmp e) (notes_among origin client (centre ++ later)) ≡ list_any (eq_by_cmp listed_cmp e) (notes_among origin client centre)
  centre-notes-in-turn client centre [] e r o out = ap (λ ps. list_any (eq_by_cmp listed_cmp e) (notes_among origin client ps)) (append-nil centre)
  centre-notes-in-turn client centre (x ∷ later) e r o out =
      let g = centre-grows client centre later x r o in
      let parts = either e.place (noted_by origin FromCentre client centre x) (noted_in_turn origin FromCentre client (centre ++ x ∷ []) later) out in
      ap (λ ps. list_any (eq_by_cmp listed_cmp e) (notes_among origin client ps)) (sym (append_assoc centre (x ∷ []) later))
      ∙ centre-notes-in-turn client (centre ++ x ∷ []) later e (longer centre x later r) (centre-order client centre x g) (or_second (list_any (eq_by_cmp place_cmp e.place) (noted_by origin FromCentre client centre x)) _ parts)
      ∙ centre-notes client centre x e g (or_first _ _ parts)

  -- ---- in order from nothing

  none-order : AreInOrder (pairing_among origin [] [])
  unfolding IsStrictlySortedBy
  none-order = record { client = refl; centre = refl; ascend = tt }

  clients-order : (client later : List StoredPdu) → Rises 0 (client ++ later) → AreInOrder (pairing_among origin client []) → AreInOrder (pairing_among origin (client ++ later) [])
  clients-order client [] r o = subst (λ ps. AreInOrder (pairing_among origin ps [])) (sym (append-nil client)) o
  clients-order client (x ∷ later) r o =
      subst (λ ps. AreInOrder (pairing_among origin ps [])) (append_assoc client (x ∷ []) later)
      (clients-order (client ++ x ∷ []) later (longer client x later r) (client-order client [] x (client-grows client [] later x r o)))

  centres-order : (client centre later : List StoredPdu) → Rises 0 (centre ++ later) → AreInOrder (pairing_among origin client centre) → AreInOrder (pairing_among origin client (centre ++ later))
  centres-order client centre [] r o = subst (λ ps. AreInOrder (pairing_among origin client ps)) (sym (append-nil centre)) o
  centres-order client centre (x ∷ later) r o =
      subst (λ ps. AreInOrder (pairing_among origin client ps)) (append_assoc centre (x ∷ []) later)
      (centres-order client (centre ++ x ∷ []) later (longer centre x later r) (centre-order client centre x (centre-grows client centre later x r o)))

  pub pdus-order : (client centre : List StoredPdu) → Rises 0 client → Rises 0 centre → AreInOrder (pairing_among origin client centre)
  pdus-order client centre r h = centres-order client [] centre h (clients-order [] client r none-order)
