-- A pair that disagrees is noted at its request, and nowhere else.
use Rattle.std.proofs.Common.{◌≡◌, ◌≢◌, ℕ, zero, suc, Bool, true, false, cond, ◌||◌, List, [], ◌∷◌, ◌++◌, Option, Some, None, refl, sym, ap, ◌∙◌}
use Rattle.std.specs.Prelude.{◌&&◌, not, map, filter, slice_get, option_map, option_and_then}
use Rattle.std.specs.List.{list_any}
use Rattle.std.specs.Cmp.{tied_itself}
use Rattle.std.specs.Ordering.{eq_by_cmp, is_eq}
use Rattle.std.proofs.lemmas.Bool.{false≢true}
use Rattle.std.proofs.lemmas.List.{map-append}
use Rattle.std.proofs.lemmas.List.Elements.{filter-append}
use Rattle.std.proofs.lemmas.List.Folds.{list_any-append}
use Rattle.std.proofs.lemmas.Map.Views.{any-filter_same}
use Rattle.smq_kit.specs.declared.place.Dir.{Dir}
use Rattle.smq_kit.specs.declared.place.Dir.TheVariants.{FromClient, FromCentre}
use Rattle.smq_kit.specs.declared.place.Place.{Place}
use Rattle.smq_kit.specs.Orders.{place_cmp}
use Rattle.smq_kit.proofs.MapLemmas.{same_key}
use Rattle.smq_kit.proofs.PlaceOrders.{places_total, places_exact}
use Rattle.smq_pdu.specs.Pairing.{is_request}
use Rattle.smq_pair.specs.declared.pairing.Pair.{Pair}
use Rattle.smq_pair.specs.Pairing.{PlacedHeader, PairingValue, pdus_from, opposite, pair_of, pair_at, places_of}
use Rattle.smq_pair.specs.Growth.{AreInOrder}
use Rattle.smq_pair.specs.within.Turns.{partner_of}
use Rattle.smq_pair.proofs.Ranked.{finds-pairs, has-two-places}
use Rattle.smq_pair.proofs.Standing.{pair_either, pair-here}
use Rattle.smq_present.specs.pairing.Traffic.{disagrees, mismatched}

itself : (q : Place) → eq_by_cmp place_cmp q q ≡ true
itself q = ap is_eq (tied_itself places_total q)

abbrev asks : PlacedHeader → Bool
asks x = is_request x.header

abbrev at_any : Place → List PlacedHeader → Bool
at_any q xs = list_any (eq_by_cmp place_cmp q) (map (λ (x : PlacedHeader). x.place) (filter asks xs))

-- ---- a request is among the places of requests

or_true : (a : Bool) → (a || true) ≡ true
or_true true = refl
or_true false = refl

some_is : (x y : PlacedHeader) → Some x ≡ Some y → x ≡ y
some_is x y e = cc

stands-in : (xs : List PlacedHeader) (i : ℕ) (x : PlacedHeader) → slice_get xs i ≡ Some x → asks x ≡ true → at_any x.place xs ≡ true
stands-in [] i x at h = absurd cc
stands-in (y ∷ xs) zero x at h =
    let same : y ≡ x = some_is y x at in
    ap (λ b. list_any (eq_by_cmp place_cmp x.place) (map (λ (x : PlacedHeader). x.place) (cond b (y ∷ filter asks xs) (filter asks xs)))) (ap asks same ∙ h)
    ∙ ap (λ (z : PlacedHeader). eq_by_cmp place_cmp x.place z.place || at_any x.place xs) same
    ∙ ap (λ b. b || at_any x.place xs) (itself x.place)
stands-in (y ∷ xs) (suc i) x at h =
    let rest = stands-in xs i x at h in
    elim (asks y) as (λ b. list_any (eq_by_cmp place_cmp x.place) (map (λ (x : PlacedHeader). x.place) (cond b (y ∷ filter asks xs) (filter asks xs))) ≡ true) [
      | true ↦ ap (λ b. eq_by_cmp place_cmp x.place y.place || b) rest ∙ or_true (eq_by_cmp place_cmp x.place y.place)
      | false ↦ rest
    ]

any-two : (q : Place) (xs ys : List PlacedHeader) → at_any q (xs ++ ys) ≡ (at_any q xs || at_any q ys)
any-two q xs ys =
    ap (λ (zs : List PlacedHeader). list_any (eq_by_cmp place_cmp q) (map (λ (x : PlacedHeader). x.place) zs)) (filter-append asks xs ys)
    ∙ ap (list_any (eq_by_cmp place_cmp q)) (map-append (λ (x : PlacedHeader). x.place) (filter asks xs) (filter asks ys))
    ∙ list_any-append (eq_by_cmp place_cmp q) (map (λ (x : PlacedHeader). x.place) (filter asks xs)) (map (λ (x : PlacedHeader). x.place) (filter asks ys))

stands : (v : PairingValue) (d : Dir) (i : ℕ) (x : PlacedHeader) → slice_get (pdus_from d v) i ≡ Some x → asks x ≡ true → at_any x.place (v.client ++ v.centre) ≡ true
stands v FromClient i x at h = any-two x.place v.client v.centre ∙ ap (λ b. b || at_any x.place v.centre) (stands-in v.client i x at h)
stands v FromCentre i x at h = any-two x.place v.client v.centre ∙ ap (λ b. at_any x.place v.client || b) (stands-in v.centre i x at h) ∙ or_true (at_any x.place v.client)

-- ---- and what is among them is one

abbrev Asked : List PlacedHeader → Place → Type 0
Asked xs q = (i : ℕ) × (x : PlacedHeader) × (slice_get xs i ≡ Some x) × (x.place ≡ q) × (asks x ≡ true)

later-one : (y : PlacedHeader) (xs : List PlacedHeader) (q : Place) → Asked xs q → Asked (y ∷ xs) q
later-one y xs q w = (suc w.0, w.1, w.2, w.3, w.4)

asked-in : (xs : List PlacedHeader) (q : Place) → at_any q xs ≡ true → Asked xs q
asked-in [] q h = absurd (false≢true h)
asked-in (y ∷ xs) q h =
    elim (asks y) as (λ b. asks y ≡ b → list_any (eq_by_cmp place_cmp q) (map (λ (x : PlacedHeader). x.place) (cond b (y ∷ filter asks xs) (filter asks xs))) ≡ true → Asked (y ∷ xs) q) [
      | true ↦ λ t found. here (λ later. asked-in xs q later) (eq_by_cmp place_cmp q y.place) refl t found
      | false ↦ λ t found. later-one y xs q (asked-in xs q found)
    ] refl h
  where
    here : (at_any q xs ≡ true → Asked xs q) → (b : Bool) → eq_by_cmp place_cmp q y.place ≡ b → asks y ≡ true → (b || at_any q xs) ≡ true → Asked (y ∷ xs) q
    here rest true e t found = (0, y, refl, sym (same_key places_total places_exact q y.place e), t)
    here rest false e t found = later-one y xs q (rest found)

-- ---- mismatched pairs

mismatched-at : (v : PairingValue) (q : Place) → list_any (eq_by_cmp place_cmp q) (mismatched v) ≡ (disagrees (pair_at v q) && list_any (eq_by_cmp place_cmp q) (places_of is_request v))
mismatched-at v q = any-filter_same (eq_by_cmp place_cmp q) (λ k. disagrees (pair_at v k)) (disagrees (pair_at v q)) (λ k t. ap (λ k. disagrees (pair_at v k)) (sym (same_key places_total places_exact q k t))) (places_of is_request v)

and_true : (b : Bool) → (b && true) ≡ b
and_true true = refl
and_true false = refl

and_false : (b : Bool) → (b && false) ≡ false
and_false true = refl
and_false false = refl

module _ (v : PairingValue) (o : AreInOrder v) (q : Place) (pair : Pair) (found : pair_at v q ≡ Some pair) where
  -- the request of a pair is noted exactly where the pair disagrees
  pub noted-at-request : list_any (eq_by_cmp place_cmp pair.request) (mismatched v) ≡ not pair.agrees
  noted-at-request =
      let rank = finds-pairs v q pair o found in
      let both = has-two-places v q pair o found in
      let place : pair.request ≡ rank.request.place = ap (λ (p : Pair). p.request) rank.is in
      mismatched-at v pair.request
      ∙ (λ i. disagrees (both.at_request i) && at_any (place i) (v.client ++ v.centre))
      ∙ ap (λ b. not pair.agrees && b) (stands v rank.dir rank.i rank.request rank.by_rank.request_at rank.by_rank.by_rank.is_request)
      ∙ and_true (not pair.agrees)

  request-of : (d : Dir) (x : PlacedHeader) (j : Option ℕ) → asks x ≡ true → option_and_then (λ j. option_map (pair_either x) (slice_get (pdus_from (opposite d) v) j)) j ≡ Some pair → pair.request ≡ x.place
  request-of d x None h e = absurd cc
  request-of d x (Some j) h e = by (slice_get (pdus_from (opposite d) v) j) e
    where
      by : (r : Option PlacedHeader) → option_map (pair_either x) r ≡ Some pair → pair.request ≡ x.place
      by None e = absurd cc
      by (Some r) e = let one : pair_either x r ≡ pair = cc in ap (λ (p : Pair). p.request) (sym one) ∙ ap (λ b. (cond b (pair_of x r) (pair_of r x)).request) h

  asked-here : (d : Dir) → Asked (pdus_from d v) q → pair.request ≡ q
  asked-here d w =
      request-of d w.1 (partner_of v d w.0 w.1.header) w.4 (sym (pair-here v d w.0 w.1 o w.2) ∙ ap (pair_at v) w.3 ∙ found) ∙ w.3

  no-request : (b : Bool) → at_any q (v.client ++ v.centre) ≡ b → q ≢ pair.request → b ≡ false
  no-request false e apart = refl
  no-request true e apart = absurd (by (at_any q v.client) refl (sym (any-two q v.client v.centre) ∙ e))
    where
      by : (c : Bool) → at_any q v.client ≡ c → (c || at_any q v.centre) ≡ true → ⊥
      by true t h = apart (sym (asked-here FromClient (asked-in v.client q t)))
      by false t h = apart (sym (asked-here FromCentre (asked-in v.centre q h)))

  -- and nothing at its response
  pub not-elsewhere : q ≢ pair.request → list_any (eq_by_cmp place_cmp q) (mismatched v) ≡ false
  not-elsewhere apart =
      mismatched-at v q
      ∙ ap (λ b. disagrees (pair_at v q) && b) (no-request (at_any q (v.client ++ v.centre)) refl apart)
      ∙ and_false (disagrees (pair_at v q))

-- what stands in no pair isn't mismatched
pub not-alone : (v : PairingValue) (q : Place) → pair_at v q ≡ None → list_any (eq_by_cmp place_cmp q) (mismatched v) ≡ false
not-alone v q none = mismatched-at v q ∙ ap (λ p. disagrees p && list_any (eq_by_cmp place_cmp q) (places_of is_request v)) none
