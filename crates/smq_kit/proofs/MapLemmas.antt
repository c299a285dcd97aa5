-- Lemmas on the words on finite maps (specs/Maps.antt), for keys whose order is total and exact: keys that compare
-- equal are one. Two maps are one where they have the same at each key, so each lemma is first proved of what a map
-- has at one key.
use Rattle.std.proofs.Common.{◌≡◌, ◌+◌, Bool, true, false, cond, ◌||◌, List, [], ◌∷◌, ◌++◌, Option, Some, None, subst, refl, sym, ap, ◌∙◌, arith}
use Rattle.std.proofs.lemmas.Bool.{false≢true}
use Rattle.std.proofs.lemmas.List.Sums.{sum_by-cons}
use Rattle.std.specs.Prelude.{T, not, map, filter, count_by, is_some, option_and_then}
use Rattle.std.specs.Option.{option_to_list}
use Rattle.std.specs.List.{AllByRecursion, flat_map, list_any}
use Rattle.std.specs.declared.cmp.Ordering.{Ordering}
use Rattle.std.specs.declared.cmp.Ordering.TheVariants.{Less, Equal, Greater}
use Rattle.std.specs.Ordering.{is_eq, eq_by_cmp}
use Rattle.std.specs.Cmp.{IsTotalOrder, tied_itself}
use Rattle.std.specs.FinMap.{FinMap, IsAntisymmetric, entries, entries_sorted, entries-insert, get, insert, remove, from_entries, from_sorted, find, is_sorted, keys, contains_key-keys, get-entries, get-from_entries, get-from_sorted, get-insert, get-remove, same_map, entries-from_sorted}
use Rattle.std.specs.FinMap.Entries.{below_all, put, by_order}
use Rattle.smq_kit.specs.Maps.{kept_of, chosen, SameOutside, set_at, patched, number_of, share, same_option, differing}
use Rattle.smq_kit.proofs.Comparisons.{is_equal, is_less, or_first, or_second, first_test, second_test, both_tests}

some_none : {A : Type 0} (x : A) → Some x ≡ None → ⊥
some_none x e = absurd cc

module _ {K : Type 0} {R : K → K → Ordering} (o : IsTotalOrder R) (exact : IsAntisymmetric R) where
  -- keys that compare equal are one
  pub same_key : (q k : K) → eq_by_cmp R q k ≡ true → q ≡ k
  same_key q k e = exact q k (is_equal (R q k) e)

  -- a key compares equal to itself
  itself : (k : K) → eq_by_cmp R k k ≡ true
  itself k = ap is_eq (tied_itself o k)

  -- a test passes somewhere in two lists where it does in one of them
  any-append : (p : K → Bool) (xs ys : List K) → list_any p (xs ++ ys) ≡ (list_any p xs || list_any p ys)
  any-append p [] ys = refl
  any-append p (x ∷ xs) ys = elim (p x) as (λ b. (b || list_any p (xs ++ ys)) ≡ ((b || list_any p xs) || list_any p ys)) [
    | true ↦
        refl
    | false ↦ any-append p xs ys
  ]

  -- a key that passes a test is in a list where it is among those of the list that pass
  any-filter : (q : K) (p : K → Bool) (ks : List K) → p q ≡ true → list_any (eq_by_cmp R q) (filter p ks) ≡ list_any (eq_by_cmp R q) ks
  any-filter q p [] h = refl
  any-filter q p (k ∷ ks) h =
      elim (eq_by_cmp R q k) as (λ b. eq_by_cmp R q k ≡ b → list_any (eq_by_cmp R q) (cond (p k) (k ∷ filter p ks) (filter p ks))
      ≡ (b || list_any (eq_by_cmp R q) ks)) [
        | true ↦ λ t. ap (λ b. list_any (eq_by_cmp R q) (cond b (k ∷ filter p ks) (filter p ks))) (ap p (sym (same_key q k t)) ∙ h)
            ∙ ap (λ b. b || list_any (eq_by_cmp R q) (filter p ks)) t
        | false ↦ λ t. elim (p k) as (λ b. list_any (eq_by_cmp R q) (cond b (k ∷ filter p ks) (filter p ks)) ≡ list_any (eq_by_cmp R q) ks) [
          | true ↦ ap (λ b. b || list_any (eq_by_cmp R q) (filter p ks)) t ∙ any-filter q p ks h
          | false ↦ any-filter q p ks h
        ]
      ] refl

  module _ {X : Type 0} where
    -- a key that is below all those of some entries isn't found among them
    find-below : (q : K) (es : List (K × X)) → T (below_all R q es) → find R q es ≡ None
    find-below q [] h = refl
    find-below q (e ∷ es) h =
        ap (λ r. cond (is_eq r) (Some e.1) (find R q es)) (is_less (R q e.0) (first_test _ _ h)) ∙ find-below q es (second_test _ _ h)

    -- what is found at the first entry's key is that entry's value
    pub find-first : (e : K × X) (es : List (K × X)) → find R e.0 (e ∷ es) ≡ Some e.1
    find-first e es = ap (λ b. cond b (Some e.1) (find R e.0 es)) (itself e.0)

    -- what is found behind the first entry is found with it before, where entries stand in order
    pub find-later : (q : K) (v : X) (e : K × X) (es : List (K × X)) → T (is_sorted R (e ∷ es)) → find R q es ≡ Some v → find R q (e ∷ es) ≡ Some v
    find-later q v e es h found =
        elim (eq_by_cmp R q e.0) as (λ b. eq_by_cmp R q e.0 ≡ b → cond b (Some e.1) (find R q es) ≡ Some v) [
          | true ↦ λ t.
              let same = same_key q e.0 t in
              let none : find R q es ≡ None = find-below q es (subst (λ x. T (below_all R x es)) (sym same) (first_test _ _ h)) in
              absurd (some_none v (sym found ∙ none))
          | false ↦ λ t. found
        ] refl

    -- entries that stand in order do so without the first
    pub sorted-behind : (e : K × X) (es : List (K × X)) → T (is_sorted R (e ∷ es)) → T (is_sorted R es)
    sorted-behind e es h = second_test _ _ h

    -- a map that is made of entries in order has these entries
    pub entries-from_entries : (es : List (K × X)) → T (is_sorted R es) → entries (from_entries {R = R} es) ≡ es
    entries-from_entries es h =
        ap entries (same_map o exact (from_entries es) (from_sorted es) (λ q. get-from_entries o es q
        ∙ sym (get-from_sorted R es q h))) ∙ entries-from_sorted R es h

    -- ---- a map that is changed at keys

    -- what a map has after one key is set: there what was put, elsewhere what it had
    pub get-set_at : (m : FinMap R X) (k : K) (v : Option X) (q : K) → get (set_at m k v) q ≡ cond (eq_by_cmp R q k) v (get m q)
    get-set_at m k None q = get-remove o m k q
    get-set_at m k (Some v) q = get-insert o m k v q

    -- what g gives at a key is what it gives at one that compares equal
    at_key : (g : K → Option X) (q k : K) (b : Bool) (x : Option X) → eq_by_cmp R q k ≡ b → cond b (g k) x ≡ cond b (g q) x
    at_key g q k true x e = ap g (sym (same_key q k e))
    at_key g q k false x e = refl

    -- a key that is set twice to the same is set where either time sets it
    shadowed : (a b : Bool) (x y : Option X) → cond a x (cond b x y) ≡ cond (b || a) x y
    shadowed true true x y = refl
    shadowed true false x y = refl
    shadowed false true x y = refl
    shadowed false false x y = refl

    -- what a map has after some keys are set: there what g gives, elsewhere what it had
    pub get-patched : (m : FinMap R X) (g : K → Option X) (ks : List K) (q : K)
        → get (patched m g ks) q ≡ cond (list_any (eq_by_cmp R q) ks) (g q) (get m q)
    get-patched m g [] q = refl
    get-patched m g (k ∷ ks) q =
        get-patched (set_at m k (g k)) g ks q
        ∙ ap (cond (list_any (eq_by_cmp R q) ks) (g q)) (get-set_at m k (g k) q ∙ at_key g q k (eq_by_cmp R q k) (get m q) refl)
        ∙ shadowed (list_any (eq_by_cmp R q) ks) (eq_by_cmp R q k) (g q) (get m q)

    by_test : (b : Bool) (x y : Option X) → (b ≡ false → y ≡ x) → cond b x y ≡ x
    by_test true x y h = refl
    by_test false x y h = h refl

    -- a map that is changed to what another has, at all keys where they may differ, is the other
    pub patched-is : (ks : List K) (m n : FinMap R X) → SameOutside ks m n → patched m (get n) ks ≡ n
    patched-is ks m n same = same_map o exact _ _ (λ q.
        get-patched m (get n) ks q ∙ by_test (list_any (eq_by_cmp R q) ks) (get n q) (get m q) (same.at q))

    -- ---- entries

    -- each entry is found by its key
    entries-there : (es : List (K × X)) → T (is_sorted R es) → AllByRecursion (λ e. find R e.0 es ≡ Some e.1) es
    entries-there [] h = tt
    entries-there (e ∷ es) h = (find-first e es, later e es es h (entries-there es (sorted-behind e es h)))
      where
        later : (e : K × X) (es fs : List (K × X)) → T (is_sorted R (e ∷ es)) → AllByRecursion (λ x. find R x.0 es ≡ Some x.1) fs
            → AllByRecursion (λ x. find R x.0 (e ∷ es) ≡ Some x.1) fs
        later e es [] h a = tt
        later e es (f ∷ fs) h a = (find-later f.0 f.1 e es h a.0, later e es fs h a.1)

    all-there : (m : FinMap R X) (es : List (K × X)) → AllByRecursion (λ e. find R e.0 (entries m) ≡ Some e.1) es
        → AllByRecursion (λ e. get m e.0 ≡ Some e.1) es
    all-there m [] a = tt
    all-there m (e ∷ es) a = (get-entries m e.0 ∙ a.0, all-there m es a.1)

    -- the value of an entry of a map is what the map has at its key
    pub get-entry : (m : FinMap R X) → AllByRecursion (λ e. get m e.0 ≡ Some e.1) (entries m)
    get-entry m = all-there m (entries m) (entries-there (entries m) (entries_sorted m))

    -- ---- where two maps differ

    none_unless : (x : Option X) → is_some x ≡ false → x ≡ None
    none_unless None h = refl
    none_unless (Some x) h = absurd cc

    module _ (same : X → X → Bool) (decides : (x y : X) → same x y ≡ true → x ≡ y) where
      same_options : (x y : Option X) → same_option same x y ≡ true → x ≡ y
      same_options None None e = refl
      same_options None (Some y) e = absurd (false≢true e)
      same_options (Some x) None e = absurd (false≢true e)
      same_options (Some x) (Some y) e = ap Some (decides x y e)

      differ_by : (m n : FinMap R X) (q : K) (b : Bool) → same_option same (get m q) (get n q) ≡ b
          → list_any (eq_by_cmp R q) (differing same m n) ≡ false → get m q ≡ get n q
      differ_by m n q true e h = same_options (get m q) (get n q) e
      differ_by m n q false e h =
          let among : list_any (eq_by_cmp R q) (keys m ++ keys n) ≡ false =
          sym (any-filter q (λ k. not (same_option same (get m k) (get n k))) (keys m ++ keys n) (ap not e)) ∙ h in
          let parts : (list_any (eq_by_cmp R q) (keys m) || list_any (eq_by_cmp R q) (keys n)) ≡ false =
          sym (any-append (eq_by_cmp R q) (keys m) (keys n)) ∙ among in
          none_unless (get m q) (contains_key-keys m q ∙ or_first _ _ parts)
          ∙ sym (none_unless (get n q) (contains_key-keys n q ∙ or_second (list_any (eq_by_cmp R q) (keys m)) _ parts))

      -- two maps have the same outside the keys at which a test tells them apart, where values that it calls the same
      -- are one
      pub outside-differing : (m n : FinMap R X) → SameOutside (differing same m n) m n
      outside-differing m n = record { at = λ q h. differ_by m n q (same_option same (get m q) (get n q)) refl h }

    -- ---- how many values pass a test

    not_none : {A : Type 0} → (b : Bool) (v : X) (x : Option X) → b ≡ true → cond b (Some v) x ≡ None → A
    not_none true v x e h = absurd cc
    not_none false v x e h = absurd (false≢true e)

    rest_none : (b : Bool) (v : X) (x : Option X) → cond b (Some v) x ≡ None → x ≡ None
    rest_none true v x h = absurd cc
    rest_none false v x h = h

    -- an entry with a new key counts beside the others
    number-put : (test : X → Bool) (k : K) (v : X) (es : List (K × X)) → find R k es ≡ None
        → count_by test (map (λ e. e.1) (put R k v es)) ≡ cond (test v) 1 0 + count_by test (map (λ e. e.1) es)
    number-put test k v [] h = sum_by-cons (λ x. cond (test x) 1 0) v []
    number-put test k v (e ∷ es) h =
        elim (R k e.0) as (λ r. R k e.0 ≡ r → count_by test
        (map (λ e. e.1) (by_order r ((k, v) ∷ e ∷ es) ((e.0, v) ∷ es) (e ∷ put R k v es)))
        ≡ cond (test v) 1 0 + count_by test (e.1 ∷ map (λ e. e.1) es)) [
          | Less ↦ λ r. sum_by-cons (λ x. cond (test x) 1 0) v (e.1 ∷ map (λ e. e.1) es)
          | Equal ↦ λ r. not_none (eq_by_cmp R k e.0) e.1 (find R k es) (ap is_eq r) h
          | Greater ↦ λ r.
              let more = sum_by-cons (λ x. cond (test x) 1 0) e.1 (map (λ e. e.1) (put R k v es)) in
              let less = sum_by-cons (λ x. cond (test x) 1 0) e.1 (map (λ e. e.1) es) in
              let ih = number-put test k v es (rest_none (eq_by_cmp R k e.0) e.1 (find R k es) h) in
              omega (arith, more, less, ih)
        ] refl

    -- setting a key that was absent adds its value's share
    number-set-absent : (test : X → Bool) (m : FinMap R X) (k : K) (v : Option X) → get m k ≡ None → number_of test (set_at m k v)
        ≡ share test v + number_of test m
    number-set-absent test m k None h =
        ap (number_of test) (same_map o exact (remove m k) m (λ q. get-remove o m k q ∙ absent q (eq_by_cmp R q k) refl)) ∙ omega arith
      where
        absent : (q : K) (b : Bool) → eq_by_cmp R q k ≡ b → cond b None (get m q) ≡ get m q
        absent q true e = sym (ap (get m) (same_key q k e) ∙ h)
        absent q false e = refl
    number-set-absent test m k (Some v) h =
        let put_in : number_of test (insert m k v) ≡ cond (test v) 1 0 + number_of test m =
        ap (λ es. count_by test (map (λ e. e.1) es)) (entries-insert o m k v) ∙ number-put test k v (entries m) (sym (get-entries m k) ∙ h) in
        let one : count_by test (v ∷ []) ≡ cond (test v) 1 0 + count_by test [] = sum_by-cons (λ x. cond (test x) 1 0) v [] in
        omega (arith, put_in, one)

    -- a map has nothing at a key that was taken out
    pub get-removed : (m : FinMap R X) (k : K) → get (remove m k) k ≡ None
    get-removed m k = get-remove o m k k ∙ ap (λ b. cond b None (get m k)) (itself k)

    -- taking a key out before it is set changes nothing
    set_removed : (m : FinMap R X) (k : K) (v : Option X) → set_at (remove m k) k v ≡ set_at m k v
    set_removed m k v = same_map o exact _ _ (λ q.
        get-set_at (remove m k) k v q ∙ ap (cond (eq_by_cmp R q k) v) (get-remove o m k q) ∙ hidden (eq_by_cmp R q k) (get m q)
        ∙ sym (get-set_at m k v q))
      where
        hidden : (b : Bool) (x : Option X) → cond b v (cond b None x) ≡ cond b v x
        hidden true x = refl
        hidden false x = refl

    -- setting a key to what the map has there changes nothing
    pub set-same : (m : FinMap R X) (k : K) → set_at m k (get m k) ≡ m
    set-same m k = same_map o exact _ _ (λ q. get-set_at m k (get m k) q ∙ there q (eq_by_cmp R q k) refl)
      where
        there : (q : K) (b : Bool) → eq_by_cmp R q k ≡ b → cond b (get m k) (get m q) ≡ get m q
        there q true e = ap (get m) (sym (same_key q k e))
        there q false e = refl

    -- the number after with the old value's share is the number before with the new value's
    pub count-set : (test : X → Bool) (m : FinMap R X) (k : K) (v : Option X) → number_of test (set_at m k v) + share test (get m k)
        ≡ number_of test m + share test v
    count-set test m k v =
        let none = get-removed m k in
        let after : number_of test (set_at m k v) ≡ share test v + number_of test (remove m k) =
        ap (number_of test) (sym (set_removed m k v)) ∙ number-set-absent test (remove m k) k v none in
        let before : number_of test m ≡ share test (get m k) + number_of test (remove m k) =
        ap (number_of test) (sym (set-same m k) ∙ sym (set_removed m k (get m k))) ∙ number-set-absent test (remove m k) k (get m k) none in
        omega (arith, after, before)

  -- ---- what is chosen of each entry

  module _ {X Y : Type 0} (f : K → X → Option Y) where
    -- a key that is below those of all entries isn't found in what is made of them
    chosen-below : (q : K) (es : List (K × X)) → T (below_all R q es) → find R q (flat_map (kept_of f) es) ≡ None
    chosen-below q [] h = refl
    chosen-below q (e ∷ es) h =
        elim (f e.0 e.1) as (λ y. find R q (map (λ z. (e.0, z)) (option_to_list y) ++ flat_map (kept_of f) es) ≡ None) [
          | None ↦ chosen-below q es (second_test _ _ h)
          | Some z ↦ ap (λ r. cond (is_eq r) (Some z) (find R q (flat_map (kept_of f) es))) (is_less (R q e.0) (first_test _ _ h))
              ∙ chosen-below q es (second_test _ _ h)
        ]

    below_same : (q k : K) (es : List (K × X)) → q ≡ k → T (below_all R k es) → T (below_all R q es)
    below_same q k es e h = subst (λ x. T (below_all R x es)) (sym e) h

    -- what is found in what is made of entries is what f makes of what is found in them
    find-chosen : (q : K) (es : List (K × X)) → T (is_sorted R es) → find R q (flat_map (kept_of f) es) ≡ option_and_then (f q) (find R q es)
    find-chosen q [] h = refl
    find-chosen q (e ∷ es) h =
        let ih = find-chosen q es (second_test _ _ h) in
        elim (eq_by_cmp R q e.0) as (λ b. eq_by_cmp R q e.0 ≡ b
        → find R q (map (λ z. (e.0, z)) (option_to_list (f e.0 e.1)) ++ flat_map (kept_of f) es)
        ≡ option_and_then (f q) (cond b (Some e.1) (find R q es))) [
          | true ↦ λ t.
              let same = same_key q e.0 t in
              let none = chosen-below q es (below_same q e.0 es same (first_test _ _ h)) in
              elim (f e.0 e.1) as (λ y. find R q (map (λ z. (e.0, z)) (option_to_list y) ++ flat_map (kept_of f) es) ≡ y) [
                | None ↦ none
                | Some z ↦ ap (λ b. cond b (Some z) (find R q (flat_map (kept_of f) es))) t
              ] ∙ ap (λ k. f k e.1) (sym same)
          | false ↦ λ t. elim (f e.0 e.1) as (λ y. find R q (map (λ z. (e.0, z)) (option_to_list y) ++ flat_map (kept_of f) es)
              ≡ option_and_then (f q) (find R q es)) [
                | None ↦ ih
                | Some z ↦ ap (λ b. cond b (Some z) (find R q (flat_map (kept_of f) es))) t ∙ ih
              ]
        ] refl

    -- what the map of what f makes has at a key is what f makes of what the map has there
    pub get-chosen : (m : FinMap R X) (q : K) → get (chosen f m) q ≡ option_and_then (f q) (get m q)
    unfolding chosen
    get-chosen m q =
        get-from_entries o (flat_map (kept_of f) (entries m)) q ∙ find-chosen q (entries m) (entries_sorted m)
        ∙ ap (option_and_then (f q)) (sym (get-entries m q))

    -- ---- what is made of entries in order stands in order

    kept-below : (x : K) (es : List (K × X)) → T (below_all R x es) → T (below_all R x (flat_map (kept_of f) es))
    kept-below x [] h = tt
    kept-below x (e ∷ es) h =
        elim (f e.0 e.1) as (λ y. T (below_all R x (map (λ z. (e.0, z)) (option_to_list y) ++ flat_map (kept_of f) es))) [
          | None ↦ kept-below x es (second_test _ _ h)
          | Some z ↦ both_tests _ _ (first_test _ _ h) (kept-below x es (second_test _ _ h))
        ]

    pub kept-sorted : (es : List (K × X)) → T (is_sorted R es) → T (is_sorted R (flat_map (kept_of f) es))
    kept-sorted [] h = tt
    kept-sorted (e ∷ es) h =
        elim (f e.0 e.1) as (λ y. T (is_sorted R (map (λ z. (e.0, z)) (option_to_list y) ++ flat_map (kept_of f) es))) [
          | None ↦ kept-sorted es (second_test _ _ h)
          | Some z ↦ both_tests _ _ (kept-below e.0 es (first_test _ _ h)) (kept-sorted es (second_test _ _ h))
        ]

    -- the entries of the map of what f makes, in order, are what f makes of the entries
    pub entries-chosen : (m : FinMap R X) → entries (chosen f m) ≡ flat_map (kept_of f) (entries m)
    unfolding chosen
    entries-chosen m = entries-from_entries (flat_map (kept_of f) (entries m)) (kept-sorted (entries m) (entries_sorted m))

  -- where f and g make the same of each entry of a map, the maps of what they make are one
  module _ {X Y : Type 0} where
    kept_alike : (f g : K → X → Option Y) (q : K) (x : Option X) → ((v : X) → x ≡ Some v → f q v ≡ g q v)
        → option_and_then (f q) x ≡ option_and_then (g q) x
    kept_alike f g q None h = refl
    kept_alike f g q (Some v) h = h v refl

    pub chosen-alike : (f g : K → X → Option Y) (m : FinMap R X) → ((q : K) (v : X) → get m q ≡ Some v → f q v ≡ g q v) → chosen f m ≡ chosen g m
    chosen-alike f g m h = same_map o exact _ _ (λ q. get-chosen f m q ∙ kept_alike f g q (get m q) (h q) ∙ sym (get-chosen g m q))

  -- the map of what f makes changes with the map: at the key that is set, to what f makes of what is put there
  module _ {X Y : Type 0} (f : K → X → Option Y) where
    pub chosen-set : (m : FinMap R X) (k : K) (v : Option X) → chosen f (set_at m k v) ≡ set_at (chosen f m) k (option_and_then (f k) v)
    chosen-set m k v = same_map o exact _ _ (λ q.
        get-chosen f (set_at m k v) q
        ∙ ap (option_and_then (f q)) (get-set_at m k v q)
        ∙ by_key q (eq_by_cmp R q k) refl
        ∙ ap (cond (eq_by_cmp R q k) (option_and_then (f k) v)) (sym (get-chosen f m q))
        ∙ sym (get-set_at (chosen f m) k (option_and_then (f k) v) q))
      where
        by_key : (q : K) (b : Bool) → eq_by_cmp R q k ≡ b → option_and_then (f q) (cond b v (get m q))
            ≡ cond b (option_and_then (f k) v) (option_and_then (f q) (get m q))
        by_key q true e = ap (λ (x : K). option_and_then (f x) v) (same_key q k e)
        by_key q false e = refl

  -- an entry with a new key that fails a test changes nothing of the entries that pass it
  module _ {X : Type 0} (p : K × X → Bool) where
    filter-put : (k : K) (v : X) (es : List (K × X)) → find R k es ≡ None → p (k, v) ≡ false → filter p (put R k v es) ≡ filter p es
    filter-put k v [] h e = ap (λ b. cond b ((k, v) ∷ []) []) e
    filter-put k v (x ∷ es) h e =
        elim (R k x.0) as (λ r. R k x.0 ≡ r → filter p (by_order r ((k, v) ∷ x ∷ es) ((x.0, v) ∷ es) (x ∷ put R k v es)) ≡ filter p (x ∷ es)) [
          | Less ↦ λ r. ap (λ b. cond b ((k, v) ∷ filter p (x ∷ es)) (filter p (x ∷ es))) e
          | Equal ↦ λ r. not_none (eq_by_cmp R k x.0) x.1 (find R k es) (ap is_eq r) h
          | Greater ↦ λ r. ap (λ (rest : List (K × X)). cond (p x) (x ∷ rest) rest)
              (filter-put k v es (rest_none (eq_by_cmp R k x.0) x.1 (find R k es) h) e)
        ] refl

    pub filter-insert : (m : FinMap R X) (k : K) (v : X) → get m k ≡ None → p (k, v) ≡ false → filter p (entries (insert m k v))
        ≡ filter p (entries m)
    filter-insert m k v h e = ap (filter p) (entries-insert o m k v) ∙ filter-put k v (entries m) (sym (get-entries m k) ∙ h) e
