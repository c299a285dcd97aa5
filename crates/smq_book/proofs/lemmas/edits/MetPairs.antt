-- The pair that one PDU more makes: it is with a PDU that stood in none, and the new one's place is that of none before.
use Rattle.std.proofs.Common.{◌≡◌, ℕ, suc, Bool, true, false, cond, ◌||◌, inl, inr, List, [], ◌∷◌, ◌++◌, length, Option, Some, None, refl, sym, ap, ◌∙◌}
use Rattle.std.specs.Prelude.{◌==◌, ◌&&◌, map, filter, slice_get, is_none, option_map, option_and_then}
use Rattle.std.specs.List.{list_all, list_any}
use Rattle.std.specs.Ordering.{eq_by_cmp}
use Rattle.std.proofs.lemmas.List.Folds.{list_all-append}
use Rattle.std.proofs.lemmas.Map.Views.{any-filter_same}
use Rattle.smq_kit.specs.declared.place.Dir.{Dir}
use Rattle.smq_kit.specs.declared.place.Dir.TheVariants.{FromClient, FromCentre}
use Rattle.smq_kit.specs.declared.place.Place.{Place}
use Rattle.smq_kit.specs.Orders.{place_cmp}
use Rattle.smq_pdu.specs.Header.{Header}
use Rattle.smq_pair.specs.declared.pairing.Pair.{Pair}
use Rattle.smq_pair.specs.Pairing.{PlacedHeader, PairingValue, pdus_from, opposite, pair_at, places_of}
use Rattle.smq_pair.specs.Growth.{AreInOrder, IsNext, pushed, is_among, made_by}
use Rattle.smq_pair.specs.within.Turns.{Turn, headers_from, index_at, partner, partner_of, turn_of}
use Rattle.smq_pair.proofs.Entered.{nothing-found, partner-next}
use Rattle.smq_pair.proofs.Lists.{get-last, one_of}
use Rattle.smq_pair.proofs.Order.{get-append, in-order-next, next-is-free}
use Rattle.smq_pair.proofs.Ranked.{header-at}
use Rattle.smq_pair.proofs.Standing.{IsNowhere, all-test, dir-of, other-place, pair_either, pair_with, pair-here, pair-nowhere, same-place}
use Rattle.smq_pair.proofs.Turned.{and_first, and_second, equal_is, index-free, next-dir, next_turn, opposite-apart, partner-back, pushed-apart, pushed-by, turn-stands}

nowhere-among : (test : Header → Bool) (ps : List PlacedHeader) (q : Place) → IsNowhere ps q
    → list_any (eq_by_cmp place_cmp q) (map (λ (x : PlacedHeader). x.place) (filter (λ (x : PlacedHeader). test x.header) ps)) ≡ false
nowhere-among test [] q h = refl
nowhere-among test (x ∷ xs) q h =
    let rest = nowhere-among test xs q (λ i. h (suc i)) in
    elim (test x.header) as (λ b. list_any (eq_by_cmp place_cmp q) (map (λ (x : PlacedHeader). x.place)
    (cond b (x ∷ filter (λ (x : PlacedHeader). test x.header) xs) (filter (λ (x : PlacedHeader). test x.header) xs))) ≡ false) [
      | true ↦ λ i. other-place q x.place (λ same. h 0 x refl (sym same)) i || rest i
      | false ↦ rest
    ]

and_false : (b : Bool) → (b && false) ≡ false
and_false true = refl
and_false false = refl

-- The pair of a PDU and another of the other direction, which is of the same session and stood in no pair.
pub record IsMet (v : PairingValue) (p : PlacedHeader) (pair : Pair) : Type 0 where
  pub other : PlacedHeader
  pub is : pair ≡ pair_either p other
  pub session : other.place.session.0 ≡ p.place.session.0
  pub alone : pair_at v other.place ≡ None

module _ (v : PairingValue) (p : PlacedHeader) (o : AreInOrder v) (n : IsNext v p.place) where
  -- ---- nothing stands at its place before

  here : (d : Dir) → IsNowhere (pdus_from d v) p.place
  here d i x at same =
      let dir : p.place.dir ≡ d = ap (λ (q : Place). q.dir) (sym same) ∙ dir-of v d i x o at in
      next-is-free v p o n i x (ap (λ (d : Dir). slice_get (pdus_from d v) i) dir ∙ at) same

  nowhere : IsNowhere (v.client ++ v.centre) p.place
  nowhere i x at same = elim (get-append v.client v.centre i x at) [ inl h ↦ here FromClient i x h same | inr h ↦ here FromCentre h.0 x h.1 same ]

  pub own-none : pair_at v p.place ≡ None
  own-none = pair-nowhere v p.place (here p.place.dir)

  -- so it is neither a request that waits nor a stray
  pub own-apart : (test : Header → Bool) → is_among p.place (filter (λ q. is_none (pair_at v q)) (places_of test v)) ≡ false
  own-apart test =
      any-filter_same (eq_by_cmp place_cmp p.place) (λ q. is_none (pair_at v q)) (is_none (pair_at v p.place))
      (λ k t. ap (λ q. is_none (pair_at v q)) (sym (same-place p.place k t))) (places_of test v)
      ∙ ap (λ b. is_none (pair_at v p.place) && b) (nowhere-among test (v.client ++ v.centre) p.place nowhere)
      ∙ and_false (is_none (pair_at v p.place))

  -- ---- the other of its pair

  session_all : (d : Dir) → list_all (λ (x : PlacedHeader). x.place.session.0 == p.place.session.0) (pdus_from d v) ≡ true
  session_all FromClient =
      and_first _ _ (sym (list_all-append (λ (x : PlacedHeader). x.place.session.0 == p.place.session.0) v.client v.centre) ∙ n.session)
  session_all FromCentre =
      and_second (list_all (λ (x : PlacedHeader). x.place.session.0 == p.place.session.0) v.client) _
      (sym (list_all-append (λ (x : PlacedHeader). x.place.session.0 == p.place.session.0) v.client v.centre) ∙ n.session)

  session_of : (d : Dir) (i : ℕ) (x : PlacedHeader) → slice_get (pdus_from d v) i ≡ Some x → x.place.session.0 ≡ p.place.session.0
  session_of d i x at =
      equal_is x.place.session.0 p.place.session.0 (all-test (λ (x : PlacedHeader). x.place.session.0 == p.place.session.0) (pdus_from d v) i x
      (session_all d) at)

  own-at : slice_get (pdus_from p.place.dir (pushed v p)) (length (pdus_from p.place.dir v)) ≡ Some p
  own-at = ap (λ ps. slice_get ps (length (pdus_from p.place.dir v))) (pushed-by p.place.dir v p refl) ∙ get-last (pdus_from p.place.dir v) p

  other-alone : (t : Turn) (j : ℕ) (x : PlacedHeader) → next_turn v p ≡ Some t → index_at v (partner t) ≡ Some j
      → slice_get (pdus_from (opposite p.place.dir) v) j ≡ Some x → pair_at v x.place ≡ None
  other-alone t j x turn index at =
      let s = turn-stands v (partner t) j index in
      let dirs : (partner t).series.dir ≡ opposite p.place.dir = ap opposite (next-dir v p t turn) in
      let same : s.header ≡ x.header = one_of (slice_get (headers_from (opposite p.place.dir) v) j) s.header x.header
      (ap (λ (d : Dir). slice_get (headers_from d v) j) (sym dirs) ∙ s.at) (header-at (pdus_from (opposite p.place.dir) v) j x at) in
      let none : partner_of v (opposite p.place.dir) j x.header ≡ None =
      ap (option_and_then (λ t. index_at v (partner t))) ((λ i. turn_of v (sym dirs i) j (sym same i)) ∙ s.turn)
      ∙ ap (index_at v) (partner-back t)
      ∙ index-free v p t turn in
      pair-here v (opposite p.place.dir) j x o at ∙ ap (pair_with v (opposite p.place.dir) x) none

  pub met : (pair : Pair) → made_by v p ≡ Some pair → IsMet v p pair
  met pair made = by_turn (next_turn v p) refl
    where
      found : pair_with (pushed v p) p.place.dir p (partner_of (pushed v p) p.place.dir (length (pdus_from p.place.dir v)) p.header) ≡ Some pair
      found = sym (pair-here (pushed v p) p.place.dir (length (pdus_from p.place.dir v)) p (in-order-next v p o n) own-at) ∙ made

      by_other : (t : Turn) (j : ℕ) → next_turn v p ≡ Some t → index_at v (partner t) ≡ Some j → (x : Option PlacedHeader)
          → slice_get (pdus_from (opposite p.place.dir) v) j ≡ x → option_map (pair_either p) x ≡ Some pair → IsMet v p pair
      by_other t j turn index None at e = absurd cc
      by_other t j turn index (Some x) at e =
          let one : pair_either p x ≡ pair = cc in
          record {
            other = x;
            is = sym one;
            session = session_of (opposite p.place.dir) j x at;
            alone = other-alone t j x turn index at;
          }

      by_index : (t : Turn) → next_turn v p ≡ Some t → (j : Option ℕ) → index_at v (partner t) ≡ j
          → pair_with (pushed v p) p.place.dir p j ≡ Some pair → IsMet v p pair
      by_index t turn None index e = absurd cc
      by_index t turn (Some j) index e =
          by_other t j turn index (slice_get (pdus_from (opposite p.place.dir) v) j) refl
          (ap (λ ps. option_map (pair_either p) (slice_get ps j))
          (sym (pushed-apart (opposite p.place.dir) p.place.dir v p (opposite-apart p.place.dir))) ∙ e)

      by_turn : (t : Option Turn) → next_turn v p ≡ t → IsMet v p pair
      by_turn None turn =
          let never : None ≡ Some pair = ap (pair_with (pushed v p) p.place.dir p) (sym (nothing-found v p partner turn)) ∙ found in
          absurd cc
      by_turn (Some t) turn =
          by_index t turn (index_at v (partner t)) refl (ap (pair_with (pushed v p) p.place.dir p) (sym (partner-next v p t turn)) ∙ found)
