-- What a set has of the keys that are made of what stands at places, each with its place. It changes with what stands there.
use Rattle.std.proofs.Common.{◌≡◌, Bool, true, false, cond, ◌||◌, List, [], ◌∷◌, Option, Some, None, refl, sym, ap, ◌∙◌}
use Rattle.std.specs.Prelude.{T, ◌&&◌, is_some, map, filter, option_and_then, option_to_list}
use Rattle.std.specs.List.{AllByRecursion, flat_map, list_any}
use Rattle.std.specs.declared.cmp.Ordering.{Ordering}
use Rattle.std.specs.Ordering.{eq_by_cmp, is_eq}
use Rattle.std.specs.Cmp.{IsTotalOrder, eq_by_cmp_equiv, tied_itself}
use Rattle.std.specs.FinMap.{FinMap, IsAntisymmetric, entries, entries_sorted, find, get, keys, is_sorted, same_map}
use Rattle.std.specs.FinMap.{contains_key-keys, get-entries, get-from_entries, get-insert, get-remove}
use Rattle.std.specs.FinSet.{FinSet}
use Rattle.std.proofs.lemmas.Bool.{false≢true}
use Rattle.std.proofs.lemmas.List.Folds.{list_any-append}
use Rattle.smq_kit.specs.declared.place.Place.{Place}
use Rattle.smq_kit.specs.Maps.{set_at}
use Rattle.smq_kit.specs.Orders.{place_cmp}
use Rattle.smq_kit.proofs.MapLemmas as maps
use Rattle.smq_kit.proofs.PlaceOrders.{places_total, places_exact}
use Rattle.smq_tally.proofs.Listings.{marked}
use Rattle.smq_book.specs.index.PlacedKeys.{keys_made, with_key, without_key, passes}

or_same : (b : Bool) → (b || b) ≡ b
or_same true = refl
or_same false = refl

or_none : (b : Bool) → (b || false) ≡ b
or_none true = refl
or_none false = refl

and_none : (b : Bool) → (b && false) ≡ false
and_none true = refl
and_none false = refl

and_all : (b : Bool) → (b && true) ≡ b
and_all true = refl
and_all false = refl

module _ {X : Type 0} where
  same_value : (v w : X) (b : Bool) (x : Option X) → b ≡ true → cond b (Some v) x ≡ Some w → w ≡ v
  same_value v w true x t e = cc
  same_value v w false x t e = absurd (false≢true t)

place_itself : (q : Place) → eq_by_cmp place_cmp q q ≡ true
place_itself q = ap is_eq (tied_itself places_total q)

module _ {K : Type 0} (R : K → K → Ordering) where
  -- whether a key is this one, if there is one
  abbrev pub is_one : K → Option K → Bool
  is_one k one = passes (eq_by_cmp R k) one

  any-option : (k : K) (one : Option K) → list_any (eq_by_cmp R k) (option_to_list one) ≡ is_one k one
  any-option k None = refl
  any-option k (Some j) = or_none (eq_by_cmp R k j)

  find-marked : (k : K) (ks : List K) → find {K = K} {X = Unit {0}} R k (map (λ j. (j, tt)) ks) ≡ marked (list_any (eq_by_cmp R k) ks)
  find-marked k [] = refl
  find-marked k (j ∷ ks) =
      elim (eq_by_cmp R k j) as (λ b. cond b (Some (tt {0})) (find {K = K} {X = Unit {0}} R k (map (λ i. (i, tt)) ks)) ≡ marked
      (b || list_any (eq_by_cmp R k) ks)) [
        | true ↦ refl
        | false ↦ find-marked k ks
      ]

module _ {K : Type 0} {R : K → K → Ordering} (o : IsTotalOrder R) where
  one-itself : (k : K) (one : Option K) → one ≡ Some k → is_one R k one ≡ true
  one-itself k one e = ap (is_one R k) e ∙ ap is_eq (tied_itself o k)

  get-with : (one : Option K) (s : FinSet R) (k : K) → get (with_key one s) k ≡ cond (is_one R k one) (Some tt) (get s k)
  get-with None s k = refl
  get-with (Some j) s k = get-insert o s j tt k

  get-without : (one : Option K) (s : FinSet R) (k : K) → get (without_key one s) k ≡ cond (is_one R k one) None (get s k)
  get-without None s k = refl
  get-without (Some j) s k = get-remove o s j k

  any-turned : (j : K) (ks : List K) → list_any (λ k. eq_by_cmp R k j) ks ≡ list_any (eq_by_cmp R j) ks
  any-turned j [] = refl
  any-turned j (k ∷ ks) = λ i. (eq_by_cmp_equiv o).symm k j i || any-turned j ks i

settled : (a b : Bool) → marked a ≡ cond a (Some tt) (cond b None (marked b))
settled true b = refl
settled false true = refl
settled false false = refl

kept_by : (one a c : Bool) → (one ≡ true → a ≡ true) → (one || (a && c)) ≡ (a && (one || c))
kept_by true true c h = refl
kept_by true false c h = absurd (false≢true (h refl))
kept_by false a c h = refl

left_by : (one a c : Bool) → (one ≡ true → a ≡ false) → (a && c) ≡ (a && (one || c))
left_by true true c h = absurd (false≢true (sym (h refl)))
left_by true false c h = refl
left_by false a c h = refl

module _ {X K : Type 0} {R : K → K → Ordering} (o : IsTotalOrder R) (exact : IsAntisymmetric R) (at : K → Place) where
  -- The key that f makes of what stands at a place has that place.
  pub record HasItsPlace (f : Place → X → Option K) : Type 0 where
    pub own : (q : Place) (v : X) (k : K) → f q v ≡ Some k → at k ≡ q

  module _ (f : Place → X → Option K) (placed : HasItsPlace f) where
    -- a key at another place isn't the one of this place
    other : (k : K) (q : Place) (v : X) (one : Option K) → f q v ≡ one → eq_by_cmp place_cmp (at k) q ≡ false → is_one R k one ≡ false
    other k q v None e apart = refl
    other k q v (Some j) e apart = by (eq_by_cmp R k j) refl
      where
        by : (b : Bool) → eq_by_cmp R k j ≡ b → b ≡ false
        by true t =
            let same : at k ≡ q = ap at (maps.same_key o exact k j t) ∙ placed.own q v j e in
            absurd (false≢true (sym apart ∙ ap (λ (p : Place). eq_by_cmp place_cmp p q) same ∙ place_itself q))
        by false t = refl

    other-at : (k : K) (q : Place) (x : Option X) → eq_by_cmp place_cmp (at k) q ≡ false → is_one R k (option_and_then (f q) x) ≡ false
    other-at k q None apart = refl
    other-at k q (Some v) apart = other k q v (f q v) refl apart

    twice : (k : K) (q : Place) (w : X) (x : Option X) → ((v : X) → x ≡ Some v → v ≡ w)
        → (is_one R k (f q w) || is_one R k (option_and_then (f q) x)) ≡ is_one R k (f q w)
    twice k q w None same = or_none (is_one R k (f q w))
    twice k q w (Some v) same = ap (λ u. is_one R k (f q w) || is_one R k (f q u)) (same v refl) ∙ or_same (is_one R k (f q w))

    any-made : (k : K) (es : List (Place × X)) → T (is_sorted place_cmp es)
        → list_any (eq_by_cmp R k) (flat_map (λ e. option_to_list (f e.0 e.1)) es)
        ≡ is_one R k (option_and_then (f (at k)) (find place_cmp (at k) es))
    any-made k [] h = refl
    any-made k (e ∷ es) h =
        let rest = any-made k es (maps.sorted-behind places_total places_exact e es h) in
        let later : Option X = find place_cmp (at k) es in
        list_any-append (eq_by_cmp R k) (option_to_list (f e.0 e.1)) (flat_map (λ e. option_to_list (f e.0 e.1)) es)
        ∙ (λ i. any-option R k (f e.0 e.1) i || rest i)
        ∙ elim (eq_by_cmp place_cmp (at k) e.0) as (λ b. eq_by_cmp place_cmp (at k) e.0 ≡ b
        → (is_one R k (f e.0 e.1) || is_one R k (option_and_then (f (at k)) later))
        ≡ is_one R k (option_and_then (f (at k)) (cond b (Some e.1) later))) [
          | true ↦ λ t.
              let same : at k ≡ e.0 = maps.same_key places_total places_exact (at k) e.0 t in
              ap (λ (p : Place). is_one R k (f p e.1) || is_one R k (option_and_then (f (at k)) later)) (sym same)
              ∙ twice k (at k) e.1 later (λ v is.
              same_value e.1 v (eq_by_cmp place_cmp (at k) e.0) later t (maps.find-later places_total places_exact (at k) v e es h is))
          | false ↦ λ t. ap (λ b. b || is_one R k (option_and_then (f (at k)) later)) (other k e.0 e.1 (f e.0 e.1) refl t)
        ] refl

    -- a key is there where f makes it of what stands at its place
    pub get-made : (m : FinMap place_cmp X) (k : K) → get (keys_made {R = R} f m) k ≡ marked (is_one R k (option_and_then (f (at k)) (get m (at k))))
    unfolding keys_made
    get-made m k =
        get-from_entries o (map (λ j. (j, tt)) (flat_map (λ e. option_to_list (f e.0 e.1)) (entries m))) k
        ∙ find-marked R k (flat_map (λ e. option_to_list (f e.0 e.1)) (entries m))
        ∙ ap marked (any-made k (entries m) (entries_sorted m) ∙ ap (λ x. is_one R k (option_and_then (f (at k)) x)) (sym (get-entries m (at k))))

    -- where f makes a key of what stands at a place, the key is there
    pub made-there : (m : FinMap place_cmp X) (q : Place) (v : X) (k : K) → get m q ≡ Some v → f q v ≡ Some k
        → get (keys_made {R = R} f m) k ≡ Some tt
    made-there m q v k is makes =
        get-made m k
        ∙ ap (λ (p : Place). marked (is_one R k (option_and_then (f p) (get m p)))) (placed.own q v k makes)
        ∙ ap marked (one-itself o k (option_and_then (f q) (get m q)) (ap (option_and_then (f q)) is ∙ makes))

  -- ---- one place changes

  module _ (f g : Place → X → Option K) (placed : HasItsPlace f) (others : HasItsPlace g) (m n : FinMap place_cmp X) where
    -- where it is the same at all places but one, the key of that place goes and the new one comes
    pub made-changed : (q : Place)
        → ((p : Place) → eq_by_cmp place_cmp p q ≡ false → option_and_then (f p) (get m p) ≡ option_and_then (g p) (get n p))
        → keys_made {R = R} g n ≡ with_key (option_and_then (g q) (get n q)) (without_key (option_and_then (f q) (get m q)) (keys_made f m))
    made-changed q same = same_map o exact _ _ (λ k.
        get-made g others n k
        ∙ by k (eq_by_cmp place_cmp (at k) q) refl
        ∙ (λ i. cond (is_one R k new) (Some tt) (cond (is_one R k old) None (sym (get-made f placed m k) i)))
        ∙ ap (cond (is_one R k new) (Some tt)) (sym (get-without o old (keys_made f m) k))
        ∙ sym (get-with o new (without_key old (keys_made f m)) k))
      where
        new : Option K
        new = option_and_then (g q) (get n q)

        old : Option K
        old = option_and_then (f q) (get m q)

        by : (k : K) (b : Bool) → eq_by_cmp place_cmp (at k) q ≡ b
            → marked (is_one R k (option_and_then (g (at k)) (get n (at k))))
            ≡ cond (is_one R k new) (Some tt) (cond (is_one R k old) None (marked (is_one R k (option_and_then (f (at k)) (get m (at k))))))
        by k true t =
            let here : at k ≡ q = maps.same_key places_total places_exact (at k) q t in
            ap (λ (p : Place). marked (is_one R k (option_and_then (g p) (get n p)))) here
            ∙ settled (is_one R k new) (is_one R k old)
            ∙ ap (λ (p : Place). cond (is_one R k new) (Some tt)
            (cond (is_one R k old) None (marked (is_one R k (option_and_then (f p) (get m p)))))) (sym here)
        by k false t =
            ap (λ one. marked (is_one R k one)) (sym (same (at k) t))
            ∙ (λ i. cond (sym (other-at g others k q (get n q) t) i) (Some tt)
            (cond (sym (other-at f placed k q (get m q) t) i) None (marked (is_one R k (option_and_then (f (at k)) (get m (at k)))))))

  module _ (f : Place → X → Option K) (placed : HasItsPlace f) (m : FinMap place_cmp X) where
    -- a place that is set anew
    pub made-set : (q : Place) (v : Option X)
        → keys_made {R = R} f (set_at m q v) ≡ with_key (option_and_then (f q) v) (without_key (option_and_then (f q) (get m q)) (keys_made f m))
    made-set q v =
        made-changed f f placed placed m (set_at m q v) q (λ p apart.
        ap (option_and_then (f p)) (sym (maps.get-set_at places_total places_exact m q v p ∙ ap (λ b. cond b v (get m p)) apart)))
        ∙ ap (λ x. with_key (option_and_then (f q) x) (without_key (option_and_then (f q) (get m q)) (keys_made {R = R} f m)))
        (maps.get-set_at places_total places_exact m q v q ∙ ap (λ b. cond b v (get m q)) (place_itself q))

    -- where what stands at a place makes the key that stood there, the keys stay
    pub made-again : (q : Place) (old v : X) → get m q ≡ Some old → f q old ≡ f q v → keys_made {R = R} f (set_at m q (Some v)) ≡ keys_made f m
    made-again q old v is same = same_map o exact _ _ (λ k.
        get-made f placed (set_at m q (Some v)) k
        ∙ ap (λ x. marked (is_one R k x)) (sym (by (at k) (eq_by_cmp place_cmp (at k) q) refl))
        ∙ sym (get-made f placed m k))
      where
        by : (p : Place) (b : Bool) → eq_by_cmp place_cmp p q ≡ b
            → option_and_then (f p) (get m p) ≡ option_and_then (f p) (get (set_at m q (Some v)) p)
        by p true t =
            let here : p ≡ q = maps.same_key places_total places_exact p q t in
            ap (λ (x : Place). option_and_then (f x) (get m x)) here
            ∙ ap (option_and_then (f q)) is
            ∙ same
            ∙ sym (ap (λ (x : Place). f x v) here)
            ∙ ap (option_and_then (f p)) (sym (maps.get-set_at places_total places_exact m q (Some v) p ∙ ap (λ b. cond b (Some v) (get m p)) t))
        by p false t =
            ap (option_and_then (f p)) (sym (maps.get-set_at places_total places_exact m q (Some v) p ∙ ap (λ b. cond b (Some v) (get m p)) t))

    -- ---- the places of the keys that pass a test

    one-there : (k : K) → get (keys_made {R = R} f m) k ≡ Some tt → is_one R k (option_and_then (f (at k)) (get m (at k))) ≡ true
    one-there k there = by (is_one R k (option_and_then (f (at k)) (get m (at k)))) (sym (get-made f placed m k) ∙ there)
      where
        by : (b : Bool) → marked b ≡ Some tt → b ≡ true
        by true e = refl
        by false e = absurd cc

    -- a key of the set stands at a place exactly where it is the one that is made there
    at-place : (q : Place) (k : K) → get (keys_made {R = R} f m) k ≡ Some tt
        → eq_by_cmp place_cmp q (at k) ≡ is_one R k (option_and_then (f q) (get m q))
    at-place q k there = by (eq_by_cmp place_cmp q (at k)) refl
      where
        by : (b : Bool) → eq_by_cmp place_cmp q (at k) ≡ b → b ≡ is_one R k (option_and_then (f q) (get m q))
        by true t =
            let here : q ≡ at k = maps.same_key places_total places_exact q (at k) t in
            sym (ap (λ (p : Place). is_one R k (option_and_then (f p) (get m p))) here ∙ one-there k there)
        by false t = sym (other-at f placed k q (get m q) ((eq_by_cmp_equiv places_total).symm (at k) q ∙ t))

    module _ (test : K → Bool) (q : Place) where
      abbrev here : Option K
      here = option_and_then (f q) (get m q)

      pass-alike : (k : K) (one : Option K) → is_one R k one ≡ true → passes test one ≡ test k
      pass-alike k None t = absurd (false≢true t)
      pass-alike k (Some j) t = ap test (sym (maps.same_key o exact k j t))

      any-passing : (es : List (K × Unit {0})) → AllByRecursion (λ e. get (keys_made {R = R} f m) e.0 ≡ Some e.1) es
          → list_any (eq_by_cmp place_cmp q) (map at (filter test (map (λ e. e.0) es)))
          ≡ (passes test here && list_any (λ k. is_one R k here) (map (λ e. e.0) es))
      any-passing [] a = sym (and_none (passes test here))
      any-passing (e ∷ es) a =
          let rest = any-passing es a.1 in
          let one = at-place q e.0 a.0 in
          let others : Bool = list_any (λ k. is_one R k here) (map (λ e. e.0) es) in
          let later : List K = filter test (map (λ e. e.0) es) in
          elim (test e.0) as (λ b. test e.0 ≡ b → list_any (eq_by_cmp place_cmp q) (map at (cond b (e.0 ∷ later) later))
          ≡ (passes test here && (is_one R e.0 here || others))) [
            | true ↦ λ t. (λ i. one i || rest i) ∙ kept_by (is_one R e.0 here) (passes test here) others (λ is. pass-alike e.0 here is ∙ t)
            | false ↦ λ t. rest ∙ left_by (is_one R e.0 here) (passes test here) others (λ is. pass-alike e.0 here is ∙ t)
          ] refl

      all-there : (x : Option X) → get m q ≡ x → (one : Option K) → option_and_then (f q) x ≡ one
          → (passes test one && list_any (λ k. is_one R k one) (keys (keys_made {R = R} f m))) ≡ passes test one
      all-there x is None makes = refl
      all-there None is (Some j) makes = absurd cc
      all-there (Some v) is (Some j) makes =
          ap (λ b. test j && b)
          (any-turned o j (keys (keys_made {R = R} f m))
          ∙ sym (contains_key-keys (keys_made {R = R} f m) j)
          ∙ ap is_some (made-there f placed m q v j is makes))
          ∙ and_all (test j)

      -- a place is one of them where a key that passes is made of what stands there
      pub places-made : list_any (eq_by_cmp place_cmp q) (map at (filter test (keys (keys_made {R = R} f m)))) ≡ passes test here
      places-made =
          any-passing (entries (keys_made {R = R} f m)) (maps.get-entry o exact (keys_made {R = R} f m))
          ∙ all-there (get m q) refl here refl
