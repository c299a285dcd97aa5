-- One PDU more makes one pair at most, and changes no other.
use Rattle.std.proofs.Common.{◌≡◌, ◌≢◌, ℕ, suc, ◌⊎◌, inl, inr, Bool, true, false, cond, ◌||◌, List, [], ◌∷◌, ◌++◌, length, take, Option, Some, None, refl, sym, ap, ◌∙◌, subst}
use Rattle.std.specs.Prelude.{◌&&◌, not, map, filter, option_map, slice_get, is_none}
use Rattle.std.specs.List.{list_any}
use Rattle.std.specs.Ordering.{eq_by_cmp}
use mathlib.Core.Bool.{and-false, and-true, and_comm, or-false, or_assoc, or_comm}
use Rattle.std.proofs.lemmas.Bool.{and_parts, false≢true, false_from_ne_true, or_cases}
use Rattle.std.proofs.lemmas.List.Folds.{list_any-append}
use Rattle.std.proofs.lemmas.Map.Views.{any-filter_same}
use Rattle.smq_kit.specs.declared.place.Dir.{Dir}
use Rattle.smq_kit.specs.declared.place.Dir.TheVariants.{FromClient, FromCentre}
use Rattle.smq_kit.specs.declared.place.Place.{Place}
use Rattle.smq_kit.specs.Orders.{place_cmp}
use Rattle.smq_kit.proofs.Comparisons.{or_first, or_second}
use Rattle.smq_pdu.specs.Header.{Header}
use Rattle.smq_pdu.specs.Pairing.{is_request, is_response}
use Rattle.smq_pair.specs.declared.pairing.Pair.{Pair}
use Rattle.smq_pair.specs.within.Turns.{Turn}
use Rattle.smq_pair.specs.Pairing.{PlacedHeader, PairingValue, pdus_from, opposite, pair_of, pair_at, places_of, waiting, strays, with_earlier}
use Rattle.smq_pair.specs.Growth.{AreInOrder, IsNext, pushed, pushed_in, touched, is_among, made_by, is_request_in, is_response_in, is_alone_at, StandsWith, GrowsByOne, GrowsByOnePair}
use Rattle.smq_pair.specs.within.Turns.{index_at, partner, partner_of, turn_of}
use Rattle.smq_pair.proofs.Lists.{some-is, get-either, one_of}
use Rattle.smq_pair.proofs.Turned.{by_dir, opposite-back, partner-back, pushed-apart, pushed-by, turn-found, next_turn, next-dir, not-request}
use Rattle.smq_pair.proofs.Standing.{IsNowhere, there-or-not, same-place, here-place, other-place, pair_with, pair_either, pair-here, pair-nowhere, standing-here, dir-of, dir-ascends}
use Rattle.smq_pair.proofs.Order.{in-order-next, next-is-free, get-append}
use Rattle.smq_pair.proofs.Entered.{found-stays, partner-next}
use Rattle.smq_pair.proofs.Placed.{get_after, own-at, partner-pdu}
use Rattle.smq_pair.proofs.Ranked.{finds-pairs, has-two-places, header-at}

-- two PDUs at one place are one
unique-at : (v : PairingValue) (d f : Dir) (i j : ℕ) (x y : PlacedHeader) → AreInOrder v → slice_get (pdus_from d v) i ≡ Some x
    → slice_get (pdus_from f v) j ≡ Some y → x.place ≡ y.place → x ≡ y
unique-at v d f i j x y o at to same =
    let dirs : d ≡ f = sym (dir-of v d i x o at) ∙ ap (λ (q : Place). q.dir) same ∙ dir-of v f j y o to in
    let there : slice_get (pdus_from d v) j ≡ Some y = ap (λ (e : Dir). slice_get (pdus_from e v) j) dirs ∙ to in
    ap (λ (e : List PlacedHeader × PlacedHeader). e.1) (one_of _ (take i (pdus_from d v), x) (take j (pdus_from d v), y)
    (standing-here [] (pdus_from d v) i x (dir-ascends v d o) at)
    (ap (λ (q : Place). slice_get (filter (λ e. eq_by_cmp place_cmp q e.1.place) (with_earlier [] (pdus_from d v))) 0) same
    ∙ standing-here [] (pdus_from d v) j y (dir-ascends v d o) there))

not-here : (p q : Place) → eq_by_cmp place_cmp p q ≡ false → p ≢ q
not-here p q e same = false≢true (sym e ∙ here-place p q same)

module _ (v : PairingValue) (p : PlacedHeader) (o : AreInOrder v) (n : IsNext v p.place) where
  abbrev after : PairingValue
  after = pushed v p

  abbrev made : Option Pair
  made = made_by v p

  after-order : AreInOrder after
  after-order = in-order-next v p o n

  get-before : {A : Type 0} (d : Dir) (i : ℕ) (x : PlacedHeader) → slice_get (pdus_from d after) i ≡ Some x
      → (slice_get (pdus_from d v) i ≡ Some x → A) → (d ≡ p.place.dir → x ≡ p → A) → A
  get-before d i x at old new = by_dir d p.place.dir
      (λ same. get-either (pdus_from d v) p i x (ap (λ ps. slice_get ps i) (sym (pushed-by d v p same)) ∙ at) old (λ last. new same))
      (λ apart. old (ap (λ ps. slice_get ps i) (sym (pushed-apart d p.place.dir v p apart)) ∙ at))

  -- ---- the pair that is made

  pub makes : (pair : Pair) → made ≡ Some pair → StandsWith after p.place pair
  makes pair e = has-two-places after p.place pair after-order e

  -- a PDU whose partner is the new one stands in the pair that is made
  touched-by : (d : Dir) (i : ℕ) (x : PlacedHeader) (u : Turn) → slice_get (pdus_from d v) i ≡ Some x
      → turn_of v d i x.header ≡ Some u → next_turn v p ≡ Some (partner u)
      → made ≡ Some (pair_either p x)
  touched-by d i x u at turn next =
      let there = turn-found v d i x.header u (header-at (pdus_from d v) i x at) turn in
      let dir : opposite p.place.dir ≡ d = ap opposite (sym (next-dir v p (partner u) next)) ∙ opposite-back u.series.dir ∙ there.0 in
      pair-here after p.place.dir (length (pdus_from p.place.dir v)) p after-order (own-at v p)
      ∙ ap (pair_with after p.place.dir p) (partner-next v p (partner u) next ∙ ap (index_at v) (partner-back u) ∙ there.1)
      ∙ ap (option_map (pair_either p)) (ap (λ (e : Dir). slice_get (pdus_from e after) i) dir ∙ get_after v p d i x at)

  among_made : (q : Place) (m : Option Pair) → is_among q (touched p.place m) ≡ false → (pair : Pair) → m ≡ Some pair
      → (q ≢ pair.request) × (q ≢ pair.response)
  among_made q None h pair e = absurd cc
  among_made q (Some made') h pair e =
      let same : made' ≡ pair = some-is made' pair e in
      let first : eq_by_cmp place_cmp q made'.request ≡ false = or_first _ _ h in
      let second : eq_by_cmp place_cmp q made'.response ≡ false = or_first _ _ (or_second (eq_by_cmp place_cmp q made'.request) _ h) in (
        (λ at. not-here q made'.request first (at ∙ ap (λ (x : Pair). x.request) (sym same))),
        (λ at. not-here q made'.response second (at ∙ ap (λ (x : Pair). x.response) (sym same))),
      )

  places_either : (x : PlacedHeader) → (x.place ≡ (pair_either p x).request) ⊎ (x.place ≡ (pair_either p x).response)
  places_either x = by_request (is_request p.header)
    where
      by_request : (b : Bool) → (x.place ≡ (cond b (pair_of p x) (pair_of x p)).request) ⊎ (x.place ≡ (cond b (pair_of p x) (pair_of x p)).response)
      by_request true = inr refl
      by_request false = inl refl

  apart-own : (q : Place) (m : Option Pair) → made ≡ m → is_among q (touched p.place m) ≡ false → p.place ≢ q
  apart-own q None e h same = not-here q p.place (or_first _ _ h) (sym same)
  apart-own q (Some pair) e h same =
      let both = among_made q (Some pair) h pair refl in
      elim (makes pair e).own [ inl at ↦ both.0 (sym same ∙ at) | inr at ↦ both.1 (sym same ∙ at) ]

  -- ---- the others

  with-stays : (d : Dir) (x : PlacedHeader) (i : ℕ) (q : Option ℕ) → partner_of v d i x.header ≡ q → pair_with after d x q ≡ pair_with v d x q
  with-stays d x i None e = refl
  with-stays d x i (Some j) e =
      let r = partner-pdu v d i x.header j e in
      ap (option_map (pair_either x)) (get_after v p (opposite d) j r.0 r.1 ∙ sym r.1)

  here-stays : (d : Dir) (i : ℕ) (x : PlacedHeader) → slice_get (pdus_from d v) i ≡ Some x → is_among x.place (touched p.place made)
      ≡ false → pair_at after x.place ≡ pair_at v x.place
  here-stays d i x at h =
      pair-here after d i x after-order (get_after v p d i x at)
      ∙ ap (pair_with after d x) (found-stays v p partner d i x.header (header-at (pdus_from d v) i x at) (λ u turn next.
      let made-is = touched-by d i x u at turn next in
      let both = among_made x.place made h (pair_either p x) made-is in
      elim (places_either x) [ inl q ↦ both.0 q | inr q ↦ both.1 q ]))
      ∙ with-stays d x i (partner_of v d i x.header) refl
      ∙ sym (pair-here v d i x o at)

  nowhere-after : (q : Place) → p.place ≢ q → IsNowhere (pdus_from q.dir v) q → IsNowhere (pdus_from q.dir after) q
  nowhere-after q h none i x at same = get-before q.dir i x at (λ old. none i x old same)
      (λ dir is. h (ap (λ (y : PlacedHeader). y.place) (sym is) ∙ same))

  pub others-stay : (q : Place) → is_among q (touched p.place made) ≡ false → pair_at after q ≡ pair_at v q
  others-stay q h = elim (there-or-not (pdus_from q.dir v) q) [
    | inl t ↦
        subst (λ (q : Place). pair_at after q ≡ pair_at v q) t.is
        (here-stays q.dir t.index t.pdu t.at (ap (λ (q : Place). is_among q (touched p.place made)) t.is ∙ h))
    | inr none ↦ pair-nowhere after q (nowhere-after q (apart-own q made refl h) none) ∙ sym (pair-nowhere v q none)
  ]

  -- ---- those that stand alone

  module _ (test : Header → Bool) where
    -- whether a PDU passes and stands at a place
    abbrev passes_at : Place → PlacedHeader → Bool
    passes_at q x = test x.header && eq_by_cmp place_cmp q x.place

    abbrev any_in : Place → PairingValue → Bool
    any_in q w = list_any (passes_at q) (w.client ++ w.centre)

    any-among : (q : Place) (ps : List PlacedHeader) → list_any (eq_by_cmp place_cmp q)
        (map (λ (x : PlacedHeader). x.place) (filter (λ (x : PlacedHeader). test x.header) ps)) ≡ list_any (passes_at q) ps
    any-among q [] = refl
    any-among q (x ∷ xs) =
        let rest = filter (λ (x : PlacedHeader). test x.header) xs in
        elim (test x.header) as (λ b. list_any (eq_by_cmp place_cmp q) (map (λ (x : PlacedHeader). x.place) (cond b (x ∷ rest) rest))
        ≡ ((b && eq_by_cmp place_cmp q x.place) || list_any (passes_at q) xs)) [
          | true ↦ ap (λ b. eq_by_cmp place_cmp q x.place || b) (any-among q xs)
          | false ↦ any-among q xs
        ]

    any_in_dir : (d : Dir) (q : Place) → any_in q (pushed_in d v p) ≡ (any_in q v || passes_at q p)
    any_in_dir FromClient q =
        let t = passes_at q in
        list_any-append t (v.client ++ p ∷ []) v.centre ∙ ap (λ b. b || list_any t v.centre) (list_any-append t v.client (p ∷ []))
        ∙ rw (or-false (t p)) (or_assoc (list_any t v.client) (t p) _
        ∙ ap (λ b. list_any t v.client || b) (or_comm (t p) (list_any t v.centre)) ∙ sym (or_assoc (list_any t v.client) _ (t p)))
        ∙ ap (λ b. b || t p) (sym (list_any-append t v.client v.centre))
    any_in_dir FromCentre q =
        let t = passes_at q in
        list_any-append t v.client (v.centre ++ p ∷ []) ∙ ap (λ b. list_any t v.client || b) (list_any-append t v.centre (p ∷ []))
        ∙ rw (or-false (t p)) (sym (or_assoc (list_any t v.client) (list_any t v.centre) (t p)))
        ∙ ap (λ b. b || t p) (sym (list_any-append t v.client v.centre))

    abbrev alone : PairingValue → List Place
    alone w = filter (λ q. is_none (pair_at w q)) (places_of test w)

    alone-among : (w : PairingValue) (q : Place) → is_among q (alone w) ≡ (is_none (pair_at w q) && any_in q w)
    alone-among w q =
        any-filter_same (eq_by_cmp place_cmp q) (λ r. is_none (pair_at w r)) (is_none (pair_at w q))
        (λ r h. ap (λ r. is_none (pair_at w r)) (sym (same-place q r h))) (places_of test w)
        ∙ ap (λ b. is_none (pair_at w q) && b) (any-among q (w.client ++ w.centre))

    -- what passes at a place
    any-there : (t : PlacedHeader → Bool) (ps : List PlacedHeader) → list_any t ps ≡ true
        → (i : ℕ) × (x : PlacedHeader) × (slice_get ps i ≡ Some x) × (t x ≡ true)
    any-there t [] h = absurd (false≢true h)
    any-there t (x ∷ xs) h = elim (or_cases (t x) (list_any t xs) h) [
      | inl e ↦ (0, x, refl, e)
      | inr e ↦ let r = any-there t xs e in (suc r.0, r.1, r.2, r.3)
    ]

    any-of-two : (q : Place) → any_in q v ≡ true → (d : Dir) × (i : ℕ) × (x : PlacedHeader)
        × (slice_get (pdus_from d v) i ≡ Some x) × (x.place ≡ q) × (test x.header ≡ true)
    any-of-two q h =
        let r = any-there (passes_at q) (v.client ++ v.centre) h in
        let both = and_parts (test r.1.header) (eq_by_cmp place_cmp q r.1.place) r.3 in
        let same : r.1.place ≡ q = sym (same-place q r.1.place both.1) in
        elim (get-append v.client v.centre r.0 r.1 r.2) [
          | inl at ↦ (FromClient, r.0, r.1, at, same, both.0)
          | inr at ↦ (FromCentre, at.0, r.1, at.1, same, both.0)
        ]

    -- the new PDU's place is that of none before
    own-is-new : (q : Place) → eq_by_cmp place_cmp q p.place ≡ true → any_in q v ≡ false
    own-is-new q e = false_from_ne_true (any_in q v) (λ h.
        let r = any-of-two q h in
        let same : r.2.place ≡ p.place = r.4 ∙ same-place q p.place e in
        let dir : p.place.dir ≡ r.0 = ap (λ (x : Place). x.dir) (sym same) ∙ dir-of v r.0 r.1 r.2 o r.3 in
        next-is-free v p o n r.1 r.2 (ap (λ (d : Dir). slice_get (pdus_from d v) r.1) dir ∙ r.3) same)

    -- what is alone after and before, at the new PDU's place and elsewhere
    by_place : (k' k r m t e a : Bool) → (e ≡ true → (a ≡ false) × (k' ≡ m)) → (e ≡ false → a ≡ true → k' ≡ (k && r))
        → (k' && (a || (t && e))) ≡ (((k && a) && r) || (e && (t && m)))
    by_place k' k r m t true a own other = let h = own refl in rw (h.0, h.1, and-false k, and-true t) (and_comm m t)
    by_place k' k r m t false false own other = rw (and-false t, and-false k', and-false k) refl
    by_place k' k r m t false true own other = rw (other refl refl, and-true (k && r), and-true k, or-false (k && r)) refl

    module _ (part : Pair → Place) (q : Place) (is_part : Option Pair → Bool) (no_part : is_part None ≡ false)
        (some_part : (pair : Pair) → is_part (Some pair) ≡ eq_by_cmp place_cmp q (part pair))
        (part-among : (pair : Pair) → q ≢ pair.request → q ≢ pair.response → q ≢ part pair)
        (part-is : (pair : Pair) → made ≡ Some pair → (d : Dir) (i : ℕ) (x : PlacedHeader) → slice_get (pdus_from d v) i ≡ Some x
        → test x.header ≡ true → x.place ≡ q
        → (q ≡ pair.request) ⊎ (q ≡ pair.response) → q ≡ part pair) where
      part-apart : (m : Option Pair) → made ≡ m → is_among q (touched p.place m) ≡ false → is_part m ≡ false
      part-apart None e h = no_part
      part-apart (Some pair) e h =
          let both = among_made q (Some pair) h pair refl in
          some_part pair ∙ other-place q (part pair) (part-among pair both.0 both.1)

      either_place : (pair : Pair) → is_among q (pair.request ∷ pair.response ∷ []) ≡ true → (q ≡ pair.request) ⊎ (q ≡ pair.response)
      either_place pair h = elim (or_cases (eq_by_cmp place_cmp q pair.request) _ h) [
        | inl e ↦ inl (same-place q pair.request e)
        | inr e ↦ inr (same-place q pair.response (sym (or-false _) ∙ e))
      ]

      -- where there was one that passes, it stands alone as before, if it isn't the pair's part
      there-alone : (m : Option Pair) → made ≡ m → eq_by_cmp place_cmp q p.place ≡ false → (d : Dir) (i : ℕ) (x : PlacedHeader)
          → slice_get (pdus_from d v) i ≡ Some x → x.place ≡ q → test x.header ≡ true
          → (b : Bool) → is_among q (touched p.place m) ≡ b → is_none (pair_at after q) ≡ (is_none (pair_at v q) && not (is_part m))
      there-alone m e h d i x at is passes false out =
          ap is_none (others-stay q (ap (λ m. is_among q (touched p.place m)) e ∙ out))
          ∙ sym (and-true (is_none (pair_at v q))) ∙ ap (λ b. is_none (pair_at v q) && not b) (sym (part-apart m e out))
      there-alone None e h d i x at is passes true in' = absurd (false≢true (sym h ∙ sym (or-false _) ∙ in'))
      there-alone (Some pair) e h d i x at is passes true in' =
          let where' = either_place pair in' in
          let part_is : q ≡ part pair = part-is pair e d i x at passes is where' in
          let stands = makes pair e in
          let here : pair_at after q ≡ Some pair = elim where' [
            | inl r ↦ ap (pair_at after) r ∙ stands.at_request
            | inr r ↦ ap (pair_at after) r ∙ stands.at_response
          ] in
          ap is_none here ∙ sym (and-false (is_none (pair_at v q)))
          ∙ ap (λ b. is_none (pair_at v q) && not b) (sym (some_part pair ∙ here-place q (part pair) part_is))

      alone-grows : is_among q (alone after) ≡ ((is_among q (alone v) && not (is_part made)) || is_alone_at test q p made)
      alone-grows =
          alone-among after q
          ∙ ap (λ b. is_none (pair_at after q) && b) (any_in_dir p.place.dir q)
          ∙ by_place (is_none (pair_at after q)) (is_none (pair_at v q)) (not (is_part made)) (is_none made) (test p.header)
          (eq_by_cmp place_cmp q p.place) (any_in q v)
          (λ own. (own-is-new q own, ap (λ q. is_none (pair_at after q)) (same-place q p.place own)))
          (λ apart there. let r = any-of-two q there in
          there-alone made refl apart r.0 r.1 r.2 r.3 r.4 r.5 (is_among q (touched p.place made)) refl)
          ∙ ap (λ b. (b && not (is_part made)) || is_alone_at test q p made) (sym (alone-among v q))

  -- a request is no response of the pair that is made, and the other way round
  part-request : (pair : Pair) → made ≡ Some pair → (d : Dir) (i : ℕ) (x : PlacedHeader) → slice_get (pdus_from d v) i ≡ Some x
      → is_request x.header ≡ true → x.place ≢ pair.response
  part-request pair e d i x at passes same =
      let f = finds-pairs after p.place pair after-order e in
      let one : x ≡ f.response = unique-at after d (opposite f.dir) i f.j x f.response after-order (get_after v p d i x at)
      f.by_rank.response_at (same ∙ ap (λ (y : Pair). y.response) f.is) in
      absurd (false≢true (sym (not-request f.response.header f.by_rank.by_rank.is_response)
      ∙ ap (λ (y : PlacedHeader). is_request y.header) (sym one) ∙ passes))

  part-response : (pair : Pair) → made ≡ Some pair → (d : Dir) (i : ℕ) (x : PlacedHeader) → slice_get (pdus_from d v) i ≡ Some x
      → is_response x.header ≡ true → x.place ≢ pair.request
  part-response pair e d i x at passes same =
      let f = finds-pairs after p.place pair after-order e in
      let one : x ≡ f.request = unique-at after d f.dir i f.i x f.request after-order (get_after v p d i x at) f.by_rank.request_at
      (same ∙ ap (λ (y : Pair). y.request) f.is) in
      absurd (false≢true (sym (not-request f.request.header (ap (λ (y : PlacedHeader). is_response y.header) (sym one) ∙ passes))
      ∙ f.by_rank.by_rank.is_request))

  waiting-grows : (q : Place) → is_among q (waiting after)
      ≡ ((is_among q (waiting v) && not (is_request_in q made)) || is_alone_at is_request q p made)
  waiting-grows q =
      alone-grows is_request (λ (pair : Pair). pair.request) q (is_request_in q) refl (λ pair. refl) (λ pair r s. r)
      (λ pair e d i x at passes is either. elim either [ inl r ↦ r | inr r ↦ absurd (part-request pair e d i x at passes (is ∙ r)) ])

  strays-grow : (q : Place) → is_among q (strays after) ≡ ((is_among q (strays v) && not (is_response_in q made)) || is_alone_at is_response q p made)
  strays-grow q =
      alone-grows is_response (λ (pair : Pair). pair.response) q (is_response_in q) refl (λ pair. refl) (λ pair r s. s)
      (λ pair e d i x at passes is either. elim either [ inl r ↦ absurd (part-response pair e d i x at passes (is ∙ r)) | inr r ↦ r ])

  pub grows-by-one : GrowsByOne v p
  grows-by-one = record { in_order = after-order; others = others-stay; made = makes; waiting = waiting-grows; strays = strays-grow }

pub grows : GrowsByOnePair
grows v p o n = grows-by-one v p o n
