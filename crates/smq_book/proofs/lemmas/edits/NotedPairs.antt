-- What one PDU more leaves of the lists of pairs, place by place: what its moves leave of them.
use Rattle.std.proofs.Common.{◌≡◌, ◌≢◌, Bool, true, false, cond, ◌||◌, [], ◌∷◌, Option, Some, None, refl, sym, ap, ◌∙◌}
use Rattle.std.specs.Prelude.{◌&&◌, not}
use Rattle.std.specs.List.{list_any}
use Rattle.std.specs.Ordering.{eq_by_cmp}
use Rattle.std.proofs.lemmas.Bool.{false≢true}
use Rattle.smq_kit.specs.declared.place.Place.{Place}
use Rattle.smq_kit.specs.Orders.{place_cmp}
use Rattle.smq_pdu.specs.Header.{Header}
use Rattle.smq_pdu.specs.Pairing.{is_request, is_response}
use Rattle.smq_pair.specs.declared.pairing.Pair.{Pair}
use Rattle.smq_pair.specs.Pairing.{PlacedHeader, PairingValue, pair_of, pair_at, waiting, strays}
use Rattle.smq_pair.specs.Growth.{AreInOrder, IsNext, GrowsByOne, pushed, is_among, made_by, touched, is_request_in, is_response_in, is_alone_at}
use Rattle.smq_pair.proofs.Grown.{grows}
use Rattle.smq_pair.proofs.Standing.{same-place, here-place}
use Rattle.smq_pair.proofs.Turned.{not-request}
use Rattle.smq_tally.specs.declared.list.List.{List as ListName}
use Rattle.smq_tally.specs.declared.list.List.TheVariants as list
use Rattle.smq_tally.specs.Lists.{listed, listed_cmp}
use Rattle.smq_present.specs.pairing.Traffic.{mismatched}
use Rattle.smq_present.specs.join.Moves.{PutNote, TakeNote}
use Rattle.smq_book.specs.edits.AppendedNotes.{met_moves}
use Rattle.smq_book.proofs.lemmas.edits.MarkedNotes.{mark, mark_by}
use Rattle.smq_book.proofs.lemmas.edits.MetPairs.{met, own-none, own-apart}
use Rattle.smq_book.proofs.lemmas.edits.MismatchedNotes.{noted-at-request, not-elsewhere, not-alone}
use Rattle.smq_book.proofs.lemmas.edits.PushNotes.{mismatched-stay}
use Rattle.smq_present.specs.join.Listings.{same_list}
use Rattle.smq_present.proofs.lemmas.join.ReceiptLists.{same-listing}

-- ---- what a list has after a PDU alone, and after a pair

-- w is whether a place was in the list, o whether it is the new PDU's, s whether that is of the list's side, t whether it
-- is that of the pair's part on that side
alone : (w o s : Bool) → ((w && true) || (o && (s && true))) ≡ cond s (cond o true w) w
alone true true true = refl
alone true true false = refl
alone true false true = refl
alone true false false = refl
alone false true true = refl
alone false true false = refl
alone false false true = refl
alone false false false = refl

no_part : (o s : Bool) → (o && (s && false)) ≡ false
no_part true true = refl
no_part true false = refl
no_part false s = refl

left : (w t : Bool) → ((w && not t) || false) ≡ cond t false w
left true true = refl
left true false = refl
left false true = refl
left false false = refl

taken : (w t o s : Bool) → ((w && not t) || (o && (s && false))) ≡ cond t false w
taken w t o s = ap (λ b. (w && not t) || b) (no_part o s) ∙ left w t

-- what isn't among them isn't taken out
idle : (t w : Bool) → (t ≡ true → w ≡ false) → cond t false w ≡ w
idle true w h = sym (h refl)
idle false w h = refl

no-response : (h : Header) → is_request h ≡ true → is_response h ≡ false
no-response h e = by (is_response h) refl
  where
    by : (b : Bool) → is_response h ≡ b → b ≡ false
    by true t = absurd (false≢true (sym (not-request h t) ∙ e))
    by false t = refl

module _ (v : PairingValue) (p : PlacedHeader) (o : AreInOrder v) (n : IsNext v p.place) (q : Place) where
  abbrev g : GrowsByOne v p
  g = grows v p o n

  -- the new one's part of its pair
  own-request : (pair : Pair) → made_by v p ≡ Some pair → is_request p.header ≡ true → pair.request ≡ p.place
  own-request pair made e =
      let m = met v p o n pair made in
      ap (λ (x : Pair). x.request) m.is ∙ ap (λ b. (cond b (pair_of p m.other) (pair_of m.other p)).request) e

  own-response : (pair : Pair) → made_by v p ≡ Some pair → is_request p.header ≡ false → pair.response ≡ p.place
  own-response pair made e =
      let m = met v p o n pair made in
      ap (λ (x : Pair). x.response) m.is ∙ ap (λ b. (cond b (pair_of p m.other) (pair_of m.other p)).response) e

  -- ---- requests that wait

  pub waiting-after : is_among q (waiting (pushed v p)) ≡ mark_by (listed list.Waiting q) (is_among q (waiting v)) (met_moves p (made_by v p))
  waiting-after = g.waiting q ∙ by (made_by v p) refl
    where
      by : (m : Option Pair) → made_by v p ≡ m → ((is_among q (waiting v) && not (is_request_in q m)) || is_alone_at is_request q p m)
          ≡ mark_by (listed list.Waiting q) (is_among q (waiting v)) (met_moves p m)
      by None made =
          alone (is_among q (waiting v)) (eq_by_cmp place_cmp q p.place) (is_request p.header)
          ∙ elim (is_request p.header) as (λ r. cond r (cond (eq_by_cmp place_cmp q p.place) true (is_among q (waiting v))) (is_among q (waiting v))
          ≡ mark_by (listed list.Waiting q) (is_among q (waiting v)) (cond r (PutNote (listed list.Waiting p.place) ∷ [])
          (cond (is_response p.header) (PutNote (listed list.StrayAnswers p.place) ∷ []) []))) [
            | true ↦ refl
            | false ↦ elim (is_response p.header) as (λ s. is_among q (waiting v)
                ≡ mark_by (listed list.Waiting q) (is_among q (waiting v)) (cond s (PutNote (listed list.StrayAnswers p.place) ∷ []) []))
                [ true ↦ refl | false ↦ refl ]
          ]
      by (Some pair) made =
          taken (is_among q (waiting v)) (eq_by_cmp place_cmp q pair.request) (eq_by_cmp place_cmp q p.place) (is_request p.header)
          ∙ elim (is_request p.header) as (λ r. is_request p.header ≡ r → cond (eq_by_cmp place_cmp q pair.request) false (is_among q (waiting v))
          ≡ mark_by (listed list.Waiting q) (is_among q (waiting v)) (cond r (TakeNote (listed list.StrayAnswers pair.response))
          (TakeNote (listed list.Waiting pair.request)) ∷ cond pair.agrees [] (PutNote (listed list.Mismatched pair.request) ∷ []))) [
            | true ↦ λ t.
                idle (eq_by_cmp place_cmp q pair.request) (is_among q (waiting v))
                (λ h. ap (λ k. is_among k (waiting v)) (same-place q pair.request h ∙ own-request pair made t) ∙ own-apart v p o n is_request)
                ∙ elim pair.agrees as (λ a. is_among q (waiting v) ≡ mark_by (listed list.Waiting q) (is_among q (waiting v))
                (TakeNote (listed list.StrayAnswers pair.response) ∷ cond a [] (PutNote (listed list.Mismatched pair.request) ∷ [])))
                [ true ↦ refl | false ↦ refl ]
            | false ↦ λ t. elim pair.agrees as (λ a. cond (eq_by_cmp place_cmp q pair.request) false (is_among q (waiting v))
                ≡ mark_by (listed list.Waiting q) (is_among q (waiting v)) (TakeNote (listed list.Waiting pair.request)
                ∷ cond a [] (PutNote (listed list.Mismatched pair.request) ∷ []))) [ true ↦ refl | false ↦ refl ]
          ] refl

  -- ---- responses that are strays

  pub strays-after : is_among q (strays (pushed v p)) ≡ mark_by (listed list.StrayAnswers q) (is_among q (strays v)) (met_moves p (made_by v p))
  strays-after = g.strays q ∙ by (made_by v p) refl
    where
      by : (m : Option Pair) → made_by v p ≡ m → ((is_among q (strays v) && not (is_response_in q m)) || is_alone_at is_response q p m)
          ≡ mark_by (listed list.StrayAnswers q) (is_among q (strays v)) (met_moves p m)
      by None made =
          alone (is_among q (strays v)) (eq_by_cmp place_cmp q p.place) (is_response p.header)
          ∙ elim (is_request p.header) as (λ r. is_request p.header ≡ r → cond (is_response p.header)
          (cond (eq_by_cmp place_cmp q p.place) true (is_among q (strays v))) (is_among q (strays v))
          ≡ mark_by (listed list.StrayAnswers q) (is_among q (strays v)) (cond r (PutNote (listed list.Waiting p.place) ∷ [])
          (cond (is_response p.header) (PutNote (listed list.StrayAnswers p.place) ∷ []) []))) [
            | true ↦ λ t. ap (λ s. cond s (cond (eq_by_cmp place_cmp q p.place) true (is_among q (strays v))) (is_among q (strays v)))
                (no-response p.header t)
            | false ↦ λ t. elim (is_response p.header) as (λ s. cond s (cond (eq_by_cmp place_cmp q p.place) true (is_among q (strays v)))
                (is_among q (strays v))
                ≡ mark_by (listed list.StrayAnswers q) (is_among q (strays v)) (cond s (PutNote (listed list.StrayAnswers p.place) ∷ []) []))
                [ true ↦ refl | false ↦ refl ]
          ] refl
      by (Some pair) made =
          taken (is_among q (strays v)) (eq_by_cmp place_cmp q pair.response) (eq_by_cmp place_cmp q p.place) (is_response p.header)
          ∙ elim (is_request p.header) as (λ r. is_request p.header ≡ r → cond (eq_by_cmp place_cmp q pair.response) false (is_among q (strays v))
          ≡ mark_by (listed list.StrayAnswers q) (is_among q (strays v)) (cond r (TakeNote (listed list.StrayAnswers pair.response))
          (TakeNote (listed list.Waiting pair.request)) ∷ cond pair.agrees [] (PutNote (listed list.Mismatched pair.request) ∷ []))) [
            | true ↦ λ t. elim pair.agrees as (λ a. cond (eq_by_cmp place_cmp q pair.response) false (is_among q (strays v))
                ≡ mark_by (listed list.StrayAnswers q) (is_among q (strays v)) (TakeNote (listed list.StrayAnswers pair.response)
                ∷ cond a [] (PutNote (listed list.Mismatched pair.request) ∷ []))) [ true ↦ refl | false ↦ refl ]
            | false ↦ λ t.
                idle (eq_by_cmp place_cmp q pair.response) (is_among q (strays v))
                (λ h. ap (λ k. is_among k (strays v)) (same-place q pair.response h ∙ own-response pair made t) ∙ own-apart v p o n is_response)
                ∙ elim pair.agrees as (λ a. is_among q (strays v) ≡ mark_by (listed list.StrayAnswers q) (is_among q (strays v))
                (TakeNote (listed list.Waiting pair.request) ∷ cond a [] (PutNote (listed list.Mismatched pair.request) ∷ [])))
                [ true ↦ refl | false ↦ refl ]
          ] refl

  -- ---- requests that are mismatched

  -- neither of a pair that is made stood in one
  pub parts-alone : (pair : Pair) → made_by v p ≡ Some pair → (pair_at v pair.request ≡ None) × (pair_at v pair.response ≡ None)
  parts-alone pair made = by (is_request p.header) refl
    where
      by : (r : Bool) → is_request p.header ≡ r → (pair_at v pair.request ≡ None) × (pair_at v pair.response ≡ None)
      by true t =
          let m = met v p o n pair made in (
            ap (pair_at v) (own-request pair made t) ∙ own-none v p o n,
            ap (pair_at v) (ap (λ (x : Pair). x.response) m.is ∙ ap (λ b. (cond b (pair_of p m.other) (pair_of m.other p)).response) t) ∙ m.alone,
          )
      by false t =
          let m = met v p o n pair made in (
            ap (pair_at v) (ap (λ (x : Pair). x.request) m.is ∙ ap (λ b. (cond b (pair_of p m.other) (pair_of m.other p)).request) t) ∙ m.alone,
            ap (pair_at v) (own-response pair made t) ∙ own-none v p o n,
          )

  stays : (m : Option Pair) → made_by v p ≡ m → list_any (eq_by_cmp place_cmp q) (touched p.place m) ≡ false
      → is_among q (mismatched (pushed v p)) ≡ is_among q (mismatched v)
  stays m made out = mismatched-stay v p g q (ap (λ m. list_any (eq_by_cmp place_cmp q) (touched p.place m)) made ∙ out)

  mismatched-alone : made_by v p ≡ None → is_among q (mismatched (pushed v p)) ≡ is_among q (mismatched v)
  mismatched-alone made = by (eq_by_cmp place_cmp q p.place) refl
    where
      by : (b : Bool) → eq_by_cmp place_cmp q p.place ≡ b → is_among q (mismatched (pushed v p)) ≡ is_among q (mismatched v)
      by true t =
          let same = same-place q p.place t in
          not-alone (pushed v p) q (ap (pair_at (pushed v p)) same ∙ made) ∙ sym (not-alone v q (ap (pair_at v) same ∙ own-none v p o n))
      by false t = stays None made (ap (λ b. b || false) t)

  apart-places : (a b : Place) → eq_by_cmp place_cmp a b ≡ false → a ≢ b
  apart-places a b h same = false≢true (sym h ∙ here-place a b same)

  mismatched-met : (pair : Pair) → made_by v p ≡ Some pair → is_among q (mismatched (pushed v p))
      ≡ cond pair.agrees (is_among q (mismatched v)) (cond (eq_by_cmp place_cmp q pair.request) true (is_among q (mismatched v)))
  mismatched-met pair made = by (eq_by_cmp place_cmp q pair.request) (eq_by_cmp place_cmp q pair.response) refl refl
    where
      either : (a b : Bool) → b ≡ false → not a ≡ cond a b true
      either true b h = sym h
      either false b h = refl

      both : (a b : Bool) → b ≡ cond a b b
      both true b = refl
      both false b = refl

      by : (a b : Bool) → eq_by_cmp place_cmp q pair.request ≡ a → eq_by_cmp place_cmp q pair.response ≡ b
          → is_among q (mismatched (pushed v p)) ≡ cond pair.agrees (is_among q (mismatched v))
          (cond (eq_by_cmp place_cmp q pair.request) true (is_among q (mismatched v)))
      by true b s t =
          let same = same-place q pair.request s in
          ap (λ k. is_among k (mismatched (pushed v p))) same
          ∙ noted-at-request (pushed v p) g.in_order p.place pair made
          ∙ either pair.agrees (is_among q (mismatched v)) (not-alone v q (ap (pair_at v) same ∙ (parts-alone pair made).0))
          ∙ ap (λ a. cond pair.agrees (is_among q (mismatched v)) (cond a true (is_among q (mismatched v)))) (sym s)
      by false true s t =
          let same = same-place q pair.response t in
          let stands = g.made pair made in
          not-elsewhere (pushed v p) g.in_order q pair (ap (pair_at (pushed v p)) same ∙ stands.at_response) (apart-places q pair.request s)
          ∙ sym (not-alone v q (ap (pair_at v) same ∙ (parts-alone pair made).1))
          ∙ both pair.agrees (is_among q (mismatched v))
          ∙ ap (λ a. cond pair.agrees (is_among q (mismatched v)) (cond a true (is_among q (mismatched v)))) (sym s)
      by false false s t =
          stays (Some pair) made (λ i. s i || (t i || false))
          ∙ both pair.agrees (is_among q (mismatched v))
          ∙ ap (λ a. cond pair.agrees (is_among q (mismatched v)) (cond a true (is_among q (mismatched v)))) (sym s)

  pub mismatched-after : is_among q (mismatched (pushed v p)) ≡ mark_by (listed list.Mismatched q) (is_among q (mismatched v))
      (met_moves p (made_by v p))
  mismatched-after = by (made_by v p) refl
    where
      by : (m : Option Pair) → made_by v p ≡ m → is_among q (mismatched (pushed v p))
          ≡ mark_by (listed list.Mismatched q) (is_among q (mismatched v)) (met_moves p m)
      by None made =
          mismatched-alone made
          ∙ elim (is_request p.header) as (λ r. is_among q (mismatched v)
          ≡ mark_by (listed list.Mismatched q) (is_among q (mismatched v)) (cond r (PutNote (listed list.Waiting p.place) ∷ [])
          (cond (is_response p.header) (PutNote (listed list.StrayAnswers p.place) ∷ []) []))) [
            | true ↦ refl
            | false ↦ elim (is_response p.header) as (λ s. is_among q (mismatched v)
                ≡ mark_by (listed list.Mismatched q) (is_among q (mismatched v)) (cond s (PutNote (listed list.StrayAnswers p.place) ∷ []) []))
                [ true ↦ refl | false ↦ refl ]
          ]
      by (Some pair) made =
          mismatched-met pair made
          ∙ elim (is_request p.header) as (λ r. cond pair.agrees (is_among q (mismatched v))
          (cond (eq_by_cmp place_cmp q pair.request) true (is_among q (mismatched v)))
          ≡ mark_by (listed list.Mismatched q) (is_among q (mismatched v)) (cond r (TakeNote (listed list.StrayAnswers pair.response))
          (TakeNote (listed list.Waiting pair.request)) ∷ cond pair.agrees [] (PutNote (listed list.Mismatched pair.request) ∷ []))) [
            | true ↦ elim pair.agrees as (λ a. cond a (is_among q (mismatched v))
                (cond (eq_by_cmp place_cmp q pair.request) true (is_among q (mismatched v)))
                ≡ mark_by (listed list.Mismatched q) (is_among q (mismatched v))
                (TakeNote (listed list.StrayAnswers pair.response) ∷ cond a [] (PutNote (listed list.Mismatched pair.request) ∷ [])))
                [ true ↦ refl | false ↦ refl ]
            | false ↦ elim pair.agrees as (λ a. cond a (is_among q (mismatched v))
                (cond (eq_by_cmp place_cmp q pair.request) true (is_among q (mismatched v)))
                ≡ mark_by (listed list.Mismatched q) (is_among q (mismatched v))
                (TakeNote (listed list.Waiting pair.request) ∷ cond a [] (PutNote (listed list.Mismatched pair.request) ∷ [])))
                [ true ↦ refl | false ↦ refl ]
          ]

-- ---- the other lists stay

other-list : (name other : ListName) (q k : Place) → same_list name other ≡ false → eq_by_cmp listed_cmp (listed name q) (listed other k) ≡ false
other-list name other q k h = same-listing name other q k ∙ ap (λ b. b && eq_by_cmp place_cmp q k) h

pub put-idle : (name other : ListName) (q k : Place) (b : Bool) → same_list name other ≡ false
    → mark (listed name q) b (PutNote (listed other k)) ≡ b
put-idle name other q k b h = ap (λ c. cond c true b) (other-list name other q k h)

take-idle : (name other : ListName) (q k : Place) (b : Bool) → same_list name other ≡ false
    → mark (listed name q) b (TakeNote (listed other k)) ≡ b
take-idle name other q k b h = ap (λ c. cond c false b) (other-list name other q k h)

module _ (name : ListName) (q : Place) (waits : same_list name list.Waiting ≡ false) (strays : same_list name list.StrayAnswers ≡ false)
    (mismatched : same_list name list.Mismatched ≡ false) where
  pub met-idle : (p : PlacedHeader) (m : Option Pair) (b : Bool) → mark_by (listed name q) b (met_moves p m) ≡ b
  met-idle p None b =
      elim (is_request p.header) as (λ r. mark_by (listed name q) b (cond r (PutNote (listed list.Waiting p.place) ∷ [])
      (cond (is_response p.header) (PutNote (listed list.StrayAnswers p.place) ∷ []) [])) ≡ b) [
        | true ↦ put-idle name list.Waiting q p.place b waits
        | false ↦ elim (is_response p.header) as (λ s. mark_by (listed name q) b (cond s (PutNote (listed list.StrayAnswers p.place) ∷ []) []) ≡ b) [
          | true ↦ put-idle name list.StrayAnswers q p.place b strays
          | false ↦ refl
        ]
      ]
  met-idle p (Some pair) b =
      ap (λ c. mark_by (listed name q) c (cond pair.agrees [] (PutNote (listed list.Mismatched pair.request) ∷ [])))
      (elim (is_request p.header) as
      (λ r. mark (listed name q) b (cond r (TakeNote (listed list.StrayAnswers pair.response)) (TakeNote (listed list.Waiting pair.request))) ≡ b) [
        | true ↦ take-idle name list.StrayAnswers q pair.response b strays
        | false ↦ take-idle name list.Waiting q pair.request b waits
      ])
      ∙ elim pair.agrees as (λ a. mark_by (listed name q) b (cond a [] (PutNote (listed list.Mismatched pair.request) ∷ [])) ≡ b) [
        | true ↦ refl
        | false ↦ put-idle name list.Mismatched q pair.request b mismatched
      ]
