-- One PDU more, which is next, stands in order too.
use Rattle.std.proofs.Common.{◌≡◌, ℕ, zero, suc, ◌<◌, ◌⊎◌, inl, inr, Bool, true, List, [], ◌∷◌, ◌++◌, Some, refl, sym, ap, ◌∙◌, subst, arith}
use Rattle.std.specs.Prelude.{◌==◌, nat_lt, map, slice_get}
use Rattle.std.specs.List.{list_all}
use Rattle.std.specs.List.Sorted.{IsStrictlySortedBy}
use Rattle.std.specs.declared.cmp.Ordering.TheVariants.{Less, Equal}
use Rattle.std.specs.Ordering.{nat_cmp, ordering_then, is_eq, eq_by_cmp}
use Rattle.std.specs.Cmp.{nat_cmp_is}
use Rattle.std.proofs.lemmas.Bool.{and_from, and_parts}
use Rattle.std.proofs.lemmas.Bool.Decides.{nat_tests}
use Rattle.std.proofs.lemmas.List.{append-nil, append_assoc}
use Rattle.std.proofs.lemmas.List.Folds.{list_all-append}
use Rattle.smq_kit.specs.declared.place.Dir.{Dir}
use Rattle.smq_kit.specs.declared.place.Dir.TheVariants.{FromClient, FromCentre}
use Rattle.smq_kit.specs.declared.place.Place.{Place}
use Rattle.smq_kit.specs.Orders.{dir_cmp, place_cmp}
use Rattle.smq_pair.specs.Pairing.{PlacedHeader, PairingValue, pdus_from}
use Rattle.smq_pair.specs.Growth.{AreInOrder, IsNext, pushed, pushed_in, is_from}
use Rattle.smq_pair.proofs.Keys.{dir_itself}
use Rattle.smq_pair.proofs.Standing.{IsNowhere, all-test, ascend-between, dir-of}

pub less_offset : (a b : Place) → a.session.0 ≡ b.session.0 → a.dir ≡ b.dir → a.offset < b.offset → place_cmp a b ≡ Less
less_offset a b s d o =
    (λ i. ordering_then (nat_cmp (s i) b.session.0) (ordering_then (dir_cmp (d i) b.dir) (nat_cmp a.offset b.offset)))
    ∙ (λ i. ordering_then (sym (nat_cmp_is b.session.0 b.session.0 Equal refl) i) (ordering_then (dir_itself b.dir i) (nat_cmp a.offset b.offset)))
    ∙ sym (nat_cmp_is a.offset b.offset Less o)

less_dir : (a b : Place) → a.session.0 ≡ b.session.0 → a.dir ≡ FromClient → b.dir ≡ FromCentre → place_cmp a b ≡ Less
less_dir a b s d e =
    (λ i. ordering_then (nat_cmp (s i) b.session.0) (ordering_then (dir_cmp (d i) (e i)) (nat_cmp a.offset b.offset)))
    ∙ (λ i. ordering_then (sym (nat_cmp_is b.session.0 b.session.0 Equal refl) i) Less)

one_all : {X : Type 0} (test : X → Bool) (xs : List X) (x : X) → list_all test xs ≡ true → test x ≡ true → list_all test (xs ++ x ∷ []) ≡ true
one_all test xs x h k = list_all-append test xs (x ∷ []) ∙ and_from _ _ h (and_from (test x) true k refl)

-- what stands in two lists stands in one of them
pub get-append : {X : Type 0} (xs ys : List X) (i : ℕ) (x : X) → slice_get (xs ++ ys) i ≡ Some x
    → (slice_get xs i ≡ Some x) ⊎ ((j : ℕ) × (slice_get ys j ≡ Some x))
get-append [] ys i x at = inr (i, at)
get-append (z ∷ xs) ys zero x at = inl at
get-append (z ∷ xs) ys (suc i) x at = get-append xs ys i x at

abbrev Ascends : List PlacedHeader → Type 0
Ascends xs = IsStrictlySortedBy place_cmp (map (λ (x : PlacedHeader). x.place) xs)

module _ (v : PairingValue) (p : PlacedHeader) (o : AreInOrder v) (n : IsNext v p.place) where
  sessions_of : (d : Dir) → list_all (λ (x : PlacedHeader). x.place.session.0 == p.place.session.0) (pdus_from d v) ≡ true
  sessions_of d =
      let is_its : PlacedHeader → Bool = λ x. x.place.session.0 == p.place.session.0 in
      let both = and_parts (list_all is_its v.client) _ (sym (list_all-append is_its v.client v.centre) ∙ n.session) in
      elim d as (λ d. list_all is_its (pdus_from d v) ≡ true) [ FromClient ↦ both.0 | FromCentre ↦ both.1 ]

  session_of : (d : Dir) (i : ℕ) (x : PlacedHeader) → slice_get (pdus_from d v) i ≡ Some x → x.place.session.0 ≡ p.place.session.0
  session_of d i x at =
      let e : (x.place.session.0 == p.place.session.0) ≡ true =
      all-test (λ (x : PlacedHeader). x.place.session.0 == p.place.session.0) (pdus_from d v) i x (sessions_of d) at in
      grind (arith, nat_tests, e)

  pub below-next : (i : ℕ) (x : PlacedHeader) → slice_get (pdus_from p.place.dir v) i ≡ Some x → x.place.offset < p.place.offset
  below-next i x at =
      let e : nat_lt x.place.offset p.place.offset ≡ true = all-test (λ (x : PlacedHeader). nat_lt x.place.offset p.place.offset)
      (pdus_from p.place.dir v) i x n.offset at in
      grind (arith, nat_tests, e)

  below_in : (d : Dir) → p.place.dir ≡ d → (i : ℕ) (x : PlacedHeader) → slice_get (pdus_from d v) i ≡ Some x → place_cmp x.place p.place ≡ Less
  below_in d e i x at =
      less_offset x.place p.place (session_of d i x at) (dir-of v d i x o at ∙ sym e)
      (below-next i x (subst (λ (d' : Dir). slice_get (pdus_from d' v) i ≡ Some x) (sym e) at))

  is_its : (d : Dir) → p.place.dir ≡ d → is_from d p ≡ true
  is_its d e = ap (λ (d' : Dir). eq_by_cmp dir_cmp d' d) e ∙ ap is_eq (dir_itself d)

  below_all : p.place.dir ≡ FromCentre → (i : ℕ) (x : PlacedHeader) → slice_get (v.client ++ v.centre) i ≡ Some x → place_cmp x.place p.place ≡ Less
  below_all e i x at = elim (get-append v.client v.centre i x at) [
    | inl h ↦ less_dir x.place p.place (session_of FromClient i x h) (dir-of v FromClient i x o h) e
    | inr h ↦ below_in FromCentre e h.0 x h.1
  ]

  in_order_in : (d : Dir) → p.place.dir ≡ d → AreInOrder (pushed_in d v p)
  in_order_in FromClient e = record {
    client = one_all (is_from FromClient) v.client p o.client (is_its FromClient e);
    centre = o.centre;
    ascend = ascend-between (λ (x : PlacedHeader). x.place) v.client v.centre p o.ascend (below_in FromClient e)
        (λ i x at. less_dir p.place x.place (sym (session_of FromCentre i x at)) e (dir-of v FromCentre i x o at));
  }
  in_order_in FromCentre e = record {
    client = o.client;
    centre = one_all (is_from FromCentre) v.centre p o.centre (is_its FromCentre e);
    ascend =
        let all : List PlacedHeader = v.client ++ v.centre in
        subst Ascends (append-nil (all ++ p ∷ []) ∙ append_assoc v.client v.centre (p ∷ []))
        (ascend-between (λ (x : PlacedHeader). x.place) all [] p (subst Ascends (sym (append-nil all)) o.ascend) (below_all e) (λ i x at. absurd cc));
  }

  pub in-order-next : AreInOrder (pushed v p)
  in-order-next = in_order_in p.place.dir refl

  -- its place is that of no other
  pub next-is-free : IsNowhere (pdus_from p.place.dir v) p.place
  next-is-free i x at same =
      let less = below-next i x at in
      let one : x.place.offset ≡ p.place.offset = ap (λ (q : Place). q.offset) same in
      absurd (omega (arith, less, one))
