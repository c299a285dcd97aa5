-- The pair of the PDU at a place, by its index, and the order of places.
use Rattle.std.proofs.Common.{◌≡◌, ◌≢◌, ℕ, zero, suc, ◌⊎◌, inl, inr, Bool, true, false, cond, List, [], ◌∷◌, ◌++◌, take, Option, Some, None, refl, sym, ap, ◌∙◌, subst}
use Rattle.std.specs.Prelude.{count_by, map, filter, option_map, option_and_then, slice_get}
use Rattle.std.specs.List.{list_all, AllByRecursion}
use Rattle.std.specs.List.Sorted.{IsStrictlySortedBy}
use Rattle.std.specs.declared.cmp.Ordering.TheVariants.{Less, Equal}
use Rattle.std.specs.Ordering.{is_eq, eq_by_cmp}
use Rattle.std.specs.Cmp.{tied_itself}
use Rattle.std.proofs.lemmas.Bool.{and_parts, cond_both, cond-false, cond-true, false_from_ne_true, false≢true}
use Rattle.std.proofs.lemmas.List.{append-nil, append_assoc, take-map}
use Rattle.std.proofs.lemmas.Map.Keys.{sorted_head, sorted_tail}
use Rattle.smq_kit.specs.declared.place.Dir.{Dir}
use Rattle.smq_kit.specs.declared.place.Dir.TheVariants.{FromClient, FromCentre}
use Rattle.smq_kit.specs.declared.place.Place.{Place}
use Rattle.smq_kit.specs.Orders.{place_cmp}
use Rattle.smq_kit.proofs.Comparisons.{is_equal}
use Rattle.smq_kit.proofs.PlaceOrders.{places_total, places_exact}
use Rattle.smq_pdu.specs.Header.{Header}
use Rattle.smq_pdu.specs.Pairing.{is_request, is_response, nth_index}
use Rattle.smq_pdu.proofs.Pairs.{in_turn, nth_index-map}
use Rattle.smq_pair.specs.declared.pairing.Pair.{Pair}
use Rattle.smq_pair.specs.declared.paired_pdu.Role.{Role}
use Rattle.smq_pair.specs.declared.paired_pdu.Role.TheVariants.{Request, Response}
use Rattle.smq_pair.specs.Pairing.{PlacedHeader, PairingValue, pdus_from, opposite, headers, pair_of, pair_after, with_earlier, standing_at, pair_at}
use Rattle.smq_pair.specs.Growth.{AreInOrder, is_from}
use Rattle.smq_pair.specs.within.Turns.{headers_from, is_of, other_side, partner_of, side_of, turn_after, index_at, partner}
use Rattle.smq_pair.proofs.Keys.{same_dir}
use Rattle.smq_pair.proofs.Lists.{some-is}
use Rattle.smq_pair.proofs.Turned.{side-request, side-response}

-- ---- what holds of each element

pub all-test : {X : Type 0} (test : X → Bool) (xs : List X) (i : ℕ) (x : X) → list_all test xs ≡ true → slice_get xs i ≡ Some x → test x ≡ true
all-test test [] i x h at = absurd cc
all-test test (y ∷ ys) zero x h at = ap test (sym (some-is y x at)) ∙ (and_parts (test y) (list_all test ys) h).0
all-test test (y ∷ ys) (suc i) x h at = all-test test ys i x (and_parts (test y) (list_all test ys) h).1 at

pub all-at : {X Y : Type 0} (P : Y → Type 0) (f : X → Y) (xs : List X) (i : ℕ) (x : X) → AllByRecursion P (map f xs)
    → slice_get xs i ≡ Some x → P (f x)
all-at P f [] i x a at = absurd cc
all-at P f (y ∷ ys) zero x a at = subst (λ z. P (f z)) (some-is y x at) a.0
all-at P f (y ∷ ys) (suc i) x a at = all-at P f ys i x a.1 at

-- ---- lists in order

module _ {X : Type 0} (f : X → Place) where
  abbrev Ascend : List X → Type 0
  Ascend xs = IsStrictlySortedBy place_cmp (map f xs)

  all-of : (P : Place → Type 0) (xs : List X) → ((i : ℕ) (x : X) → slice_get xs i ≡ Some x → P (f x)) → AllByRecursion P (map f xs)
  all-of P [] h = tt
  all-of P (x ∷ xs) h = (h 0 x refl, all-of P xs (λ i. h (suc i)))

  all-back : (P : Place → Type 0) (xs ys : List X) → AllByRecursion P (map f (xs ++ ys)) → AllByRecursion P (map f ys)
  all-back P [] ys a = a
  all-back P (x ∷ xs) ys a = all-back P xs ys a.1

  all-front : (P : Place → Type 0) (xs ys : List X) → AllByRecursion P (map f (xs ++ ys)) → AllByRecursion P (map f xs)
  all-front P [] ys a = tt
  all-front P (x ∷ xs) ys a = (a.0, all-front P xs ys a.1)

  all-join : (P : Place → Type 0) (xs ys : List X) → AllByRecursion P (map f xs) → AllByRecursion P (map f ys) → AllByRecursion P (map f (xs ++ ys))
  all-join P [] ys a b = b
  all-join P (x ∷ xs) ys a b = (a.0, all-join P xs ys a.1 b)

  all-filter : (P : Place → Type 0) (test : X → Bool) (xs : List X) → AllByRecursion P (map f xs) → AllByRecursion P (map f (filter test xs))
  all-filter P test [] a = tt
  all-filter P test (x ∷ xs) a =
      let rest = all-filter P test xs a.1 in
      cond_both (test x) (x ∷ filter test xs) (filter test xs) (λ ys. AllByRecursion P (map f ys)) (λ _. (a.0, rest)) (λ _. rest)

  pub ascend-back : (xs ys : List X) → Ascend (xs ++ ys) → Ascend ys
  ascend-back [] ys s = s
  ascend-back (x ∷ xs) ys s = ascend-back xs ys (sorted_tail place_cmp (f x) (map f (xs ++ ys)) s)

  pub ascend-front : (xs ys : List X) → Ascend (xs ++ ys) → Ascend xs
  unfolding IsStrictlySortedBy
  ascend-front [] ys s = tt
  ascend-front (x ∷ xs) ys s = (all-front (λ y. place_cmp (f x) y ≡ Less) xs ys s.0, ascend-front xs ys s.1)

  pub ascend-filter : (test : X → Bool) (xs : List X) → Ascend xs → Ascend (filter test xs)
  unfolding IsStrictlySortedBy
  ascend-filter test [] s = tt
  ascend-filter test (x ∷ xs) s =
      let rest = ascend-filter test xs s.1 in
      cond_both (test x) (x ∷ filter test xs) (filter test xs) Ascend (λ _. (all-filter (λ y. place_cmp (f x) y ≡ Less) test xs s.0, rest)) (λ _. rest)

  -- one more between those below it and those above it
  pub ascend-between : (xs ys : List X) (z : X) → Ascend (xs ++ ys) → ((i : ℕ) (x : X) → slice_get xs i ≡ Some x → place_cmp (f x) (f z) ≡ Less)
      → ((i : ℕ) (y : X) → slice_get ys i ≡ Some y → place_cmp (f z) (f y) ≡ Less) → Ascend ((xs ++ z ∷ []) ++ ys)
  unfolding IsStrictlySortedBy
  ascend-between [] ys z s below above = (all-of (λ y. place_cmp (f z) y ≡ Less) ys above, s)
  ascend-between (x ∷ xs) ys z s below above =
      let P : Place → Type 0 = λ y. place_cmp (f x) y ≡ Less in (
        all-join P (xs ++ z ∷ []) ys (all-join P xs (z ∷ []) (all-front P xs ys s.0) (below 0 x refl, tt)) (all-back P xs ys s.0),
        ascend-between xs ys z s.1 (λ i. below (suc i)) above,
      )

-- ---- places

not-less : (q : Place) → place_cmp q q ≢ Less
not-less q e = let h : Less ≡ Equal = sym e ∙ tied_itself places_total q in cc

pub same-place : (p q : Place) → eq_by_cmp place_cmp p q ≡ true → p ≡ q
same-place p q e = places_exact p q (is_equal (place_cmp p q) e)

pub here-place : (p q : Place) → p ≡ q → eq_by_cmp place_cmp p q ≡ true
here-place p q e = ap (λ x. eq_by_cmp place_cmp p x) (sym e) ∙ ap is_eq (tied_itself places_total p)

pub other-place : (p q : Place) → (p ≡ q → ⊥) → eq_by_cmp place_cmp p q ≡ false
other-place p q h = false_from_ne_true (eq_by_cmp place_cmp p q) (λ e. h (same-place p q e))

-- ---- the PDU at a place

pub record IsThere (ps : List PlacedHeader) (q : Place) : Type 0 where
  pub index : ℕ
  pub pdu : PlacedHeader
  pub at : slice_get ps index ≡ Some pdu
  pub is : pdu.place ≡ q

abbrev pub IsNowhere : List PlacedHeader → Place → Type 0
IsNowhere ps q = (i : ℕ) (p : PlacedHeader) → slice_get ps i ≡ Some p → p.place ≢ q

-- a place is that of a PDU, or of none
pub there-or-not : (ps : List PlacedHeader) (q : Place) → IsThere ps q ⊎ IsNowhere ps q
there-or-not [] q = inr (λ i p at. absurd cc)
there-or-not (x ∷ xs) q = by_test (eq_by_cmp place_cmp x.place q) refl (there-or-not xs q)
  where
    nowhere : eq_by_cmp place_cmp x.place q ≡ false → IsNowhere xs q → IsNowhere (x ∷ xs) q
    nowhere e h zero p at same = false≢true (sym e ∙ here-place x.place q (ap (λ (y : PlacedHeader). y.place) (some-is x p at) ∙ same))
    nowhere e h (suc k) p at same = h k p at same

    by_test : (b : Bool) → eq_by_cmp place_cmp x.place q ≡ b → IsThere xs q ⊎ IsNowhere xs q → IsThere (x ∷ xs) q ⊎ IsNowhere (x ∷ xs) q
    by_test true e r = inl (record { index = 0; pdu = x; at = refl; is = same-place x.place q e })
    by_test false e (inl t) = inl (record { index = suc t.index; pdu = t.pdu; at = t.at; is = t.is })
    by_test false e (inr h) = inr (nowhere e h)

pub standing-here : (earlier ps : List PlacedHeader) (i : ℕ) (p : PlacedHeader)
    → IsStrictlySortedBy place_cmp (map (λ (x : PlacedHeader). x.place) ps) → slice_get ps i ≡ Some p
    → slice_get (filter (λ e. eq_by_cmp place_cmp p.place e.1.place) (with_earlier earlier ps)) 0 ≡ Some (earlier ++ take i ps, p)
standing-here earlier [] i p s at = absurd cc
standing-here earlier (x ∷ xs) zero p s at =
    let same : x ≡ p = some-is x p at in
    ap (λ (es : List (List PlacedHeader × PlacedHeader)). slice_get es 0) (cond-true (eq_by_cmp place_cmp p.place x.place) _ _
    (here-place p.place x.place (ap (λ (y : PlacedHeader). y.place) (sym same))))
    ∙ (λ i. Some (sym (append-nil earlier) i, same i))
standing-here earlier (x ∷ xs) (suc i) p s at =
    let less : place_cmp x.place p.place ≡ Less = all-at (λ y. place_cmp x.place y ≡ Less) (λ (y : PlacedHeader). y.place) xs i p
    (sorted_head place_cmp x.place (map (λ (y : PlacedHeader). y.place) xs) s) at in
    ap (λ (es : List (List PlacedHeader × PlacedHeader)). slice_get es 0) (cond-false (eq_by_cmp place_cmp p.place x.place) _ _
    (other-place p.place x.place (λ e. not-less p.place (ap (λ y. place_cmp y p.place) e ∙ less))))
    ∙ standing-here (earlier ++ x ∷ []) xs i p (sorted_tail place_cmp x.place (map (λ (y : PlacedHeader). y.place) xs) s) at
    ∙ ap (λ ys. Some (ys, p)) (append_assoc earlier (x ∷ []) (take i xs))

standing-nowhere : (earlier ps : List PlacedHeader) (q : Place) → IsNowhere ps q
    → slice_get (filter (λ e. eq_by_cmp place_cmp q e.1.place) (with_earlier earlier ps)) 0 ≡ None
standing-nowhere earlier [] q h = refl
standing-nowhere earlier (x ∷ xs) q h =
    ap (λ (es : List (List PlacedHeader × PlacedHeader)). slice_get es 0)
    (cond-false (eq_by_cmp place_cmp q x.place) _ _ (other-place q x.place (λ e. h 0 x refl (sym e))))
    ∙ standing-nowhere (earlier ++ x ∷ []) xs q (λ i. h (suc i))

-- ---- its pair

-- the index of the partner of what has a side: of the other direction's of the other side the one of its rank
pub partner-side : (v : PairingValue) (d : Dir) (i : ℕ) (h : Header) (side : Role) → side_of h ≡ Some side
    → partner_of v d i h ≡ nth_index (is_of (other_side side) h.seq) (headers_from (opposite d) v) (count_by (is_of side h.seq) (take i (headers_from d v)))
partner-side v d i h side e =
    ap (λ s. option_and_then (λ t. index_at v (partner t))
    (option_map (turn_after (take i (headers_from d v))) (option_map (λ side. record { dir = d; side = side; seq = h.seq }) s))) e

-- what is neither has none
pub partner-neither : (v : PairingValue) (d : Dir) (i : ℕ) (h : Header) → is_request h ≡ false → is_response h ≡ false → partner_of v d i h ≡ None
partner-neither v d i h e f =
    (λ x. option_and_then (λ t. index_at v (partner t))
    (option_map (turn_after (take i (headers_from d v))) (option_map (λ side. record { dir = d; side = side; seq = h.seq })
    (cond (e x) (Some Request) (cond (f x) (Some Response) None)))))

-- the pair of a PDU and another
abbrev pub pair_either : PlacedHeader → PlacedHeader → Pair
pair_either p r = cond (is_request p.header) (pair_of p r) (pair_of r p)

abbrev pub pair_with : PairingValue → Dir → PlacedHeader → Option ℕ → Option Pair
pair_with v d p o = option_and_then (λ j. option_map (pair_either p) (slice_get (pdus_from (opposite d) v) j)) o

joined : {X Y : Type 0} (f : X → Y) (xs : List X) (o : Option ℕ) → option_map f (option_and_then (slice_get xs) o)
    ≡ option_and_then (λ j. option_map f (slice_get xs j)) o
joined f xs None = refl
joined f xs (Some j) = refl

module _ (v : PairingValue) (d : Dir) (i : ℕ) (p : PlacedHeader) where
  abbrev mine : List PlacedHeader
  mine = pdus_from d v

  abbrev other : List PlacedHeader
  other = pdus_from (opposite d) v

  -- the pair by the element of a rank is that by its index
  by_side : (side : Role) (f : PlacedHeader → Pair) → side_of p.header ≡ Some side → ((r : PlacedHeader) → f r ≡ pair_either p r)
      → option_map f (slice_get (filter (λ (r : PlacedHeader). is_of (other_side side) p.header.seq r.header) other) (count_by (is_of side p.header.seq) (headers (take i mine))))
      ≡ pair_with v d p (partner_of v d i p.header)
  by_side side f e same =
      let is_its : Header → Bool = is_of (other_side side) p.header.seq in
      let rank : ℕ = count_by (is_of side p.header.seq) (take i (headers mine)) in
      ap (option_map f) (
      ap (λ hs. slice_get (filter (λ (r : PlacedHeader). is_its r.header) other) (count_by (is_of side p.header.seq) hs)) (sym (take-map (λ (r : PlacedHeader). r.header) i mine))
      ∙ in_turn (λ (r : PlacedHeader). is_its r.header) other rank
      ∙ ap (option_and_then (slice_get other)) (sym (nth_index-map is_its (λ (r : PlacedHeader). r.header) other rank)))
      ∙ joined f other (nth_index is_its (headers other) rank)
      ∙ (λ x. option_and_then (λ j. option_map (λ r. same r x) (slice_get other j)) (sym (partner-side v d i p.header side e) x))

  by_kind : (a b : Bool) → is_request p.header ≡ a → is_response p.header ≡ b → pair_after other (take i mine) p
      ≡ pair_with v d p (partner_of v d i p.header)
  by_kind true b e f =
      cond-true (is_request p.header) _ _ e
      ∙ by_side Request (λ r. pair_of p r) (side-request p.header e) (λ r. sym (ap (λ b. cond b (pair_of p r) (pair_of r p)) e))
  by_kind false true e f =
      cond-false (is_request p.header) _ _ e ∙ cond-true (is_response p.header) _ _ f
      ∙ by_side Response (λ r. pair_of r p) (side-response p.header f) (λ r. sym (ap (λ b. cond b (pair_of p r) (pair_of r p)) e))
  by_kind false false e f =
      cond-false (is_request p.header) _ _ e ∙ cond-false (is_response p.header) _ _ f
      ∙ sym (ap (pair_with v d p) (partner-neither v d i p.header e f))

-- ---- directions in order

pub dir-of : (v : PairingValue) (d : Dir) (i : ℕ) (p : PlacedHeader) → AreInOrder v → slice_get (pdus_from d v) i ≡ Some p → p.place.dir ≡ d
dir-of v FromClient i p o at = same_dir p.place.dir FromClient (is_equal _ (all-test (is_from FromClient) v.client i p o.client at))
dir-of v FromCentre i p o at = same_dir p.place.dir FromCentre (is_equal _ (all-test (is_from FromCentre) v.centre i p o.centre at))

pub dir-ascends : (v : PairingValue) (d : Dir) → AreInOrder v → IsStrictlySortedBy place_cmp (map (λ (x : PlacedHeader). x.place) (pdus_from d v))
dir-ascends v FromClient o = ascend-front (λ (x : PlacedHeader). x.place) v.client v.centre o.ascend
dir-ascends v FromCentre o = ascend-back (λ (x : PlacedHeader). x.place) v.client v.centre o.ascend

-- the pair of the PDU at an index of a direction is that with its partner
pub pair-here : (v : PairingValue) (d : Dir) (i : ℕ) (p : PlacedHeader) → AreInOrder v → slice_get (pdus_from d v) i ≡ Some p
    → pair_at v p.place ≡ pair_with v d p (partner_of v d i p.header)
pair-here v d i p o at =
    ap (λ (e : Dir). option_and_then (λ e'. pair_after (pdus_from (opposite e) v) e'.0 e'.1) (standing_at p.place (pdus_from e v)))
    (dir-of v d i p o at)
    ∙ ap (option_and_then (λ e'. pair_after (pdus_from (opposite d) v) e'.0 e'.1)) (standing-here [] (pdus_from d v) i p (dir-ascends v d o) at)
    ∙ by_kind v d i p (is_request p.header) (is_response p.header) refl refl

pub pair-nowhere : (v : PairingValue) (q : Place) → IsNowhere (pdus_from q.dir v) q → pair_at v q ≡ None
pair-nowhere v q h = ap (option_and_then (λ e. pair_after (pdus_from (opposite q.dir) v) e.0 e.1)) (standing-nowhere [] (pdus_from q.dir v) q h)
