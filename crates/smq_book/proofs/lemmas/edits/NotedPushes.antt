-- What PDUs more of a session leave of its notes: what their moves leave of them.
use Rattle.std.proofs.Common.{◌≡◌, Bool, true, false, cond, ◌||◌, List, [], ◌∷◌, ◌++◌, refl, sym, ap, ◌∙◌}
use Rattle.std.specs.Prelude.{map, filter}
use Rattle.std.specs.Ordering.{eq_by_cmp}
use Rattle.std.proofs.lemmas.List.{append-nil, append_assoc, map-append}
use Rattle.std.proofs.lemmas.List.Folds.{list_any-append}
use Rattle.smq_kit.specs.declared.place.Dir.{Dir}
use Rattle.smq_kit.specs.declared.place.Dir.TheVariants.{FromClient, FromCentre}
use Rattle.smq_kit.specs.declared.place.Place.{Place}
use Rattle.smq_kit.specs.Orders.{place_cmp}
use Rattle.smq_pair.specs.Pairing.{PairingValue, PlacedHeader, waiting, strays}
use Rattle.smq_pair.specs.Growth.{AreInOrder, IsNext, is_among, made_by, pushed}
use Rattle.smq_tally.specs.declared.list.List.{List as ListName}
use Rattle.smq_tally.specs.declared.list.List.TheVariants as list
use Rattle.smq_tally.specs.declared.list.Listed.{Listed}
use Rattle.smq_tally.specs.Lists.{listed}
use Rattle.smq_present.specs.present.Content.{Content}
use Rattle.smq_present.specs.declared.present.kept.StoredPdu.{StoredPdu}
use Rattle.smq_present.specs.present.Kept.{is_undecodable, is_unreadable}
use Rattle.smq_present.specs.pairing.Traffic.{Origin, place_of, placed, pairing_among, places_where, mismatched, unreadable, undecodable}
use Rattle.smq_present.specs.within.Pairs.{Rises}
use Rattle.smq_present.specs.join.Moves.{Move, PutNote}
use Rattle.smq_book.specs.edits.AppendedNotes.{met_moves, undecodable_moves, unreadable_moves, next_moves, note_moves}
use Rattle.smq_book.proofs.lemmas.edits.MarkedNotes.{mark_by, mark-both}
use Rattle.smq_book.proofs.lemmas.edits.NotedPairs.{waiting-after, strays-after, mismatched-after, met-idle, put-idle}
use Rattle.smq_present.proofs.lemmas.join.NotedTraffic.{in_lists, is_noted}
use Rattle.smq_book.proofs.lemmas.edits.PushNotes.{next-client, next-centre, client-grows, centre-grows, client-order, centre-order, longer}
use Rattle.smq_present.specs.join.Listings.{same_list}

-- ---- a PDU more of those whose content passes a test

module _ (test : Content → Bool) (origin : Origin) (dir : Dir) (next : StoredPdu) (q : Place) where
  one_more : (a t o r : Bool) → (a || cond t (cond o true r) r) ≡ cond t (cond o true (a || r)) (a || r)
  one_more true true true r = refl
  one_more true true false r = refl
  one_more true false o r = refl
  one_more false t o r = refl

  first_one : (o : Bool) → (o || false) ≡ cond o true false
  first_one true = refl
  first_one false = refl

  where-push : (pdus : List StoredPdu) → is_among q (places_where test origin dir (pdus ++ next ∷ []))
      ≡ cond (test next.content) (cond (eq_by_cmp place_cmp q (place_of origin dir next)) true (is_among q (places_where test origin dir pdus)))
      (is_among q (places_where test origin dir pdus))
  where-push [] =
      elim (test next.content) as (λ t. is_among q (map (place_of origin dir) (cond t (next ∷ []) []))
      ≡ cond t (cond (eq_by_cmp place_cmp q (place_of origin dir next)) true false) false) [
        | true ↦ first_one (eq_by_cmp place_cmp q (place_of origin dir next))
        | false ↦ refl
      ]
  where-push (p ∷ pdus) =
      let rest : List StoredPdu = filter (λ (p : StoredPdu). test p.content) pdus in
      let more : List StoredPdu = filter (λ (p : StoredPdu). test p.content) (pdus ++ next ∷ []) in
      elim (test p.content) as (λ b. is_among q (map (place_of origin dir) (cond b (p ∷ more) more))
      ≡ cond (test next.content) (cond (eq_by_cmp place_cmp q (place_of origin dir next)) true
      (is_among q (map (place_of origin dir) (cond b (p ∷ rest) rest)))) (is_among q (map (place_of origin dir) (cond b (p ∷ rest) rest)))) [
        | true ↦
            ap (λ b. eq_by_cmp place_cmp q (place_of origin dir p) || b) (where-push pdus)
            ∙ one_more (eq_by_cmp place_cmp q (place_of origin dir p)) (test next.content) (eq_by_cmp place_cmp q (place_of origin dir next))
            (is_among q (places_where test origin dir pdus))
        | false ↦ where-push pdus
      ]

-- ---- lists of contents

module _ (origin : Origin) (next : StoredPdu) (q : Place) where
  or_true : (b : Bool) → (b || true) ≡ true
  or_true true = refl
  or_true false = refl

  client-undecodable : (client centre : List StoredPdu) → is_among q (undecodable origin (client ++ next ∷ []) centre)
      ≡ mark_by (listed list.Undecodable q) (is_among q (undecodable origin client centre)) (undecodable_moves origin FromClient next)
  client-undecodable client centre =
      let c = is_among q (places_where is_undecodable origin FromClient client) in
      let k = is_among q (places_where is_undecodable origin FromCentre centre) in
      let place = place_of origin FromClient next in
      list_any-append (eq_by_cmp place_cmp q) (places_where is_undecodable origin FromClient (client ++ next ∷ []))
      (places_where is_undecodable origin FromCentre centre)
      ∙ ap (λ b. b || k) (where-push is_undecodable origin FromClient next q client)
      ∙ elim (is_undecodable next.content) as (λ t. (cond t (cond (eq_by_cmp place_cmp q place) true c) c || k)
      ≡ mark_by (listed list.Undecodable q) (c || k) (cond t (PutNote (listed list.Undecodable place) ∷ []) [])) [
        | true ↦ elim (eq_by_cmp place_cmp q place) as (λ o. (cond o true c || k) ≡ cond o true (c || k)) [ true ↦ refl | false ↦ refl ]
        | false ↦ refl
      ]
      ∙ ap (λ b. mark_by (listed list.Undecodable q) b (undecodable_moves origin FromClient next))
      (sym (list_any-append (eq_by_cmp place_cmp q) (places_where is_undecodable origin FromClient client)
      (places_where is_undecodable origin FromCentre centre)))

  centre-undecodable : (client centre : List StoredPdu) → is_among q (undecodable origin client (centre ++ next ∷ []))
      ≡ mark_by (listed list.Undecodable q) (is_among q (undecodable origin client centre)) (undecodable_moves origin FromCentre next)
  centre-undecodable client centre =
      let c = is_among q (places_where is_undecodable origin FromClient client) in
      let k = is_among q (places_where is_undecodable origin FromCentre centre) in
      let place = place_of origin FromCentre next in
      list_any-append (eq_by_cmp place_cmp q) (places_where is_undecodable origin FromClient client)
      (places_where is_undecodable origin FromCentre (centre ++ next ∷ []))
      ∙ ap (λ b. c || b) (where-push is_undecodable origin FromCentre next q centre)
      ∙ elim (is_undecodable next.content) as (λ t. (c || cond t (cond (eq_by_cmp place_cmp q place) true k) k)
      ≡ mark_by (listed list.Undecodable q) (c || k) (cond t (PutNote (listed list.Undecodable place) ∷ []) [])) [
        | true ↦ elim (eq_by_cmp place_cmp q place) as (λ o. (c || cond o true k) ≡ cond o true (c || k)) [ true ↦ or_true c | false ↦ refl ]
        | false ↦ refl
      ]
      ∙ ap (λ b. mark_by (listed list.Undecodable q) b (undecodable_moves origin FromCentre next))
      (sym (list_any-append (eq_by_cmp place_cmp q) (places_where is_undecodable origin FromClient client)
      (places_where is_undecodable origin FromCentre centre)))

  centre-unreadable : (centre : List StoredPdu) → is_among q (unreadable origin (centre ++ next ∷ []))
      ≡ mark_by (listed list.Unreadable q) (is_among q (unreadable origin centre)) (unreadable_moves origin FromCentre next)
  centre-unreadable centre =
      let u = is_among q (unreadable origin centre) in
      let place = place_of origin FromCentre next in
      where-push is_unreadable origin FromCentre next q centre
      ∙ elim (is_unreadable next.content) as (λ t. cond t (cond (eq_by_cmp place_cmp q place) true u) u
      ≡ mark_by (listed list.Unreadable q) u (cond t (PutNote (listed list.Unreadable place) ∷ []) [])) [ true ↦ refl | false ↦ refl ]

  -- other lists stay
  undecodable-idle : (name : ListName) (dir : Dir) (b : Bool) → same_list name list.Undecodable ≡ false
      → mark_by (listed name q) b (undecodable_moves origin dir next) ≡ b
  undecodable-idle name dir b h =
      elim (is_undecodable next.content) as
      (λ t. mark_by (listed name q) b (cond t (PutNote (listed list.Undecodable (place_of origin dir next)) ∷ []) []) ≡ b) [
        | true ↦ put-idle name list.Undecodable q (place_of origin dir next) b h
        | false ↦ refl
      ]

  unreadable-idle : (name : ListName) (dir : Dir) (b : Bool) → same_list name list.Unreadable ≡ false
      → mark_by (listed name q) b (unreadable_moves origin dir next) ≡ b
  unreadable-idle name FromClient b h = refl
  unreadable-idle name FromCentre b h =
      elim (is_unreadable next.content) as
      (λ t. mark_by (listed name q) b (cond t (PutNote (listed list.Unreadable (place_of origin FromCentre next)) ∷ []) []) ≡ b) [
        | true ↦ put-idle name list.Unreadable q (place_of origin FromCentre next) b h
        | false ↦ refl
      ]

-- ---- a PDU more, list by list

three : (e : Listed) (xs ys zs : List Move) (b x y z : Bool) → x ≡ mark_by e b xs → y ≡ mark_by e x ys → z ≡ mark_by e y zs
    → z ≡ mark_by e b (xs ++ ys ++ zs)
three e xs ys zs b x y z h k l =
    l ∙ ap (λ b. mark_by e b zs) (k ∙ ap (λ b. mark_by e b ys) h ∙ sym (mark-both e b xs ys)) ∙ sym (mark-both e b (xs ++ ys) zs)

module _ (origin : Origin) (dir : Dir) (v : PairingValue) (next : StoredPdu) (o : AreInOrder v) (n : IsNext v (place_of origin dir next)) (q : Place)
    (u new_u d new_d broken : Bool)
    (read : new_u ≡ mark_by (listed list.Unreadable q) u (unreadable_moves origin dir next))
    (decoded : new_d ≡ mark_by (listed list.Undecodable q) d (undecodable_moves origin dir next)) where
  abbrev p : PlacedHeader
  p = placed origin dir next

  -- a list that contents don't change
  by_pair : (name : ListName) (b new : Bool) → new ≡ mark_by (listed name q) b (met_moves p (made_by v p))
      → same_list name list.Undecodable ≡ false → same_list name list.Unreadable ≡ false
      → new ≡ mark_by (listed name q) b (met_moves p (made_by v p) ++ undecodable_moves origin dir next ++ unreadable_moves origin dir next)
  by_pair name b new h d u =
      three (listed name q) (met_moves p (made_by v p)) (undecodable_moves origin dir next) (unreadable_moves origin dir next) b new new new
      h (sym (undecodable-idle origin next q name dir new d)) (sym (unreadable-idle origin next q name dir new u))

  pushed-lists : (name : ListName)
      → in_lists name (is_among q (waiting (pushed v p))) (is_among q (strays (pushed v p))) (is_among q (mismatched (pushed v p))) new_u new_d broken
      ≡ mark_by (listed name q) (in_lists name (is_among q (waiting v)) (is_among q (strays v)) (is_among q (mismatched v)) u d broken)
      (met_moves p (made_by v p) ++ undecodable_moves origin dir next ++ unreadable_moves origin dir next)
  pushed-lists list.Waiting = by_pair list.Waiting (is_among q (waiting v)) (is_among q (waiting (pushed v p))) (waiting-after v p o n q) refl refl
  pushed-lists list.StrayAnswers =
      by_pair list.StrayAnswers (is_among q (strays v)) (is_among q (strays (pushed v p))) (strays-after v p o n q) refl refl
  pushed-lists list.Mismatched =
      by_pair list.Mismatched (is_among q (mismatched v)) (is_among q (mismatched (pushed v p))) (mismatched-after v p o n q) refl refl
  pushed-lists list.Unreadable =
      three (listed list.Unreadable q) (met_moves p (made_by v p)) (undecodable_moves origin dir next) (unreadable_moves origin dir next) u u u new_u
      (sym (met-idle list.Unreadable q refl refl refl p (made_by v p) u)) (sym (undecodable-idle origin next q list.Unreadable dir u refl)) read
  pushed-lists list.Undecodable =
      three (listed list.Undecodable q) (met_moves p (made_by v p)) (undecodable_moves origin dir next) (unreadable_moves origin dir next) d d new_d
      new_d
      (sym (met-idle list.Undecodable q refl refl refl p (made_by v p) d)) decoded
      (sym (unreadable-idle origin next q list.Undecodable dir new_d refl))
  pushed-lists list.Broken = by_pair list.Broken broken broken (sym (met-idle list.Broken q refl refl refl p (made_by v p) broken)) refl refl
  pushed-lists name = by_pair name false false (sym (met-idle name q refl refl refl p (made_by v p) false)) refl refl

-- ---- PDUs more, in turn

module _ (origin : Origin) (broken : List Place) (e : Listed) where
  client-noted : (client centre : List StoredPdu) (next : StoredPdu) → AreInOrder (pairing_among origin client centre)
      → IsNext (pairing_among origin client centre) (place_of origin FromClient next)
      → is_noted origin (client ++ next ∷ []) centre broken e ≡ mark_by e (is_noted origin client centre broken e)
      (next_moves origin FromClient client centre next)
  client-noted client centre next o n =
      let v = pairing_among origin client centre in
      let grown : pairing_among origin (client ++ next ∷ []) centre ≡ pushed v (placed origin FromClient next) = λ i. record
      { client = map-append (placed origin FromClient) client (next ∷ []) i; centre = map (placed origin FromCentre) centre } in
      ap (λ w. in_lists e.list (is_among e.place (waiting w)) (is_among e.place (strays w)) (is_among e.place (mismatched w))
      (is_among e.place (unreadable origin centre))
      (is_among e.place (undecodable origin (client ++ next ∷ []) centre)) (is_among e.place broken)) grown
      ∙ pushed-lists origin FromClient v next o n e.place (is_among e.place (unreadable origin centre)) (is_among e.place (unreadable origin centre))
      (is_among e.place (undecodable origin client centre)) (is_among e.place (undecodable origin (client ++ next ∷ []) centre))
      (is_among e.place broken)
      refl (client-undecodable origin next e.place client centre) e.list

  centre-noted : (client centre : List StoredPdu) (next : StoredPdu) → AreInOrder (pairing_among origin client centre)
      → IsNext (pairing_among origin client centre) (place_of origin FromCentre next)
      → is_noted origin client (centre ++ next ∷ []) broken e ≡ mark_by e (is_noted origin client centre broken e)
      (next_moves origin FromCentre client centre next)
  centre-noted client centre next o n =
      let v = pairing_among origin client centre in
      let grown : pairing_among origin client (centre ++ next ∷ []) ≡ pushed v (placed origin FromCentre next) = λ i. record
      { client = map (placed origin FromClient) client; centre = map-append (placed origin FromCentre) centre (next ∷ []) i } in
      ap (λ w. in_lists e.list (is_among e.place (waiting w)) (is_among e.place (strays w)) (is_among e.place (mismatched w))
      (is_among e.place (unreadable origin (centre ++ next ∷ [])))
      (is_among e.place (undecodable origin client (centre ++ next ∷ []))) (is_among e.place broken)) grown
      ∙ pushed-lists origin FromCentre v next o n e.place (is_among e.place (unreadable origin centre))
      (is_among e.place (unreadable origin (centre ++ next ∷ [])))
      (is_among e.place (undecodable origin client centre)) (is_among e.place (undecodable origin client (centre ++ next ∷ [])))
      (is_among e.place broken)
      (centre-unreadable origin next e.place centre) (centre-undecodable origin next e.place client centre) e.list

  pub clients-noted : (client centre later : List StoredPdu) → Rises 0 (client ++ later) → AreInOrder (pairing_among origin client centre)
      → is_noted origin (client ++ later) centre broken e ≡ mark_by e (is_noted origin client centre broken e)
      (note_moves origin FromClient client centre later)
  clients-noted client centre [] r o = ap (λ ps. is_noted origin ps centre broken e) (append-nil client)
  clients-noted client centre (x ∷ later) r o =
      ap (λ ps. is_noted origin ps centre broken e) (sym (append_assoc client (x ∷ []) later))
      ∙ clients-noted (client ++ x ∷ []) centre later (longer origin client x later r)
      (client-order origin client centre x (client-grows origin client centre later x r o))
      ∙ ap (λ b. mark_by e b (note_moves origin FromClient (client ++ x ∷ []) centre later))
      (client-noted client centre x o (next-client origin client centre later x r))
      ∙ sym (mark-both e (is_noted origin client centre broken e) (next_moves origin FromClient client centre x)
      (note_moves origin FromClient (client ++ x ∷ []) centre later))

  pub centres-noted : (client centre later : List StoredPdu) → Rises 0 (centre ++ later) → AreInOrder (pairing_among origin client centre)
      → is_noted origin client (centre ++ later) broken e ≡ mark_by e (is_noted origin client centre broken e)
      (note_moves origin FromCentre client centre later)
  centres-noted client centre [] r o = ap (λ ps. is_noted origin client ps broken e) (append-nil centre)
  centres-noted client centre (x ∷ later) r o =
      ap (λ ps. is_noted origin client ps broken e) (sym (append_assoc centre (x ∷ []) later))
      ∙ centres-noted client (centre ++ x ∷ []) later (longer origin centre x later r)
      (centre-order origin client centre x (centre-grows origin client centre later x r o))
      ∙ ap (λ b. mark_by e b (note_moves origin FromCentre client (centre ++ x ∷ []) later))
      (centre-noted client centre x o (next-centre origin client centre later x r))
      ∙ sym (mark-both e (is_noted origin client centre broken e) (next_moves origin FromCentre client centre x)
      (note_moves origin FromCentre client (centre ++ x ∷ []) later))
