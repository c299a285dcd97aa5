-- Numbers of which none stands twice.
use Rattle.std.proofs.Common.{◌≡◌, ◌∙◌, ◌<◌, ◌+◌, ℕ, List, [], ◌∷◌, ◌++◌, length, map, take, drop, get_or, Bool, true, false, cond, not, ◌&&◌, ◌||◌, nat_eq, nat_cmp, is_eq, refl, sym, ap, arith}
use Rattle.std.proofs.lemmas.Bool.Decides.{nat_tests}
use Rattle.std.proofs.lemmas.List.{drop_more, map-append, take-append-drop, take_more}
use Rattle.std.specs.BTreeSet.{BTreeSet, Updates, contains}
use Rattle.std.specs.List.{list_any}
use Rattle.smq_load.specs.Settings.{are_distinct}
use Rattle.smq_load.specs.declared.link_settings.LinkSettings.{LinkSettings}

-- the numbers of links
abbrev pub numbers_of : List LinkSettings → List ℕ
numbers_of links = map (λ forms. forms.link.0) links

-- whether a number is among numbers and one more
list_any-push : (q x : ℕ) (xs : List ℕ) → list_any (nat_eq q) (xs ++ x ∷ []) ≡ (list_any (nat_eq q) xs || nat_eq q x)
list_any-push q x [] = grind (arith, nat_tests)
list_any-push q x (y ∷ ys) = by_head (nat_eq q y) (list_any-push q x ys)
  where
    by_head : (b : Bool) → list_any (nat_eq q) (ys ++ x ∷ []) ≡ (list_any (nat_eq q) ys || nat_eq q x)
        → (b || list_any (nat_eq q) (ys ++ x ∷ [])) ≡ ((b || list_any (nat_eq q) ys) || nat_eq q x)
    by_head true h = refl
    by_head false h = h

-- a number that stands among others is among them
list_any-within : (q : ℕ) (xs ys : List ℕ) → list_any (nat_eq q) (xs ++ q ∷ ys) ≡ true
list_any-within q [] ys = grind (arith, nat_tests)
list_any-within q (x ∷ xs) ys = rw (list_any-within q xs ys) (by_head (nat_eq q x))
  where
    by_head : (b : Bool) → (b || true) ≡ true
    by_head true = refl
    by_head false = refl

-- one more number keeps them distinct where it is not among them
are_distinct-push : (xs : List ℕ) (x : ℕ) → are_distinct xs ≡ true → list_any (nat_eq x) xs ≡ false → are_distinct (xs ++ x ∷ []) ≡ true
are_distinct-push [] x d n = refl
are_distinct-push (y ∷ ys) x d n =
    let apart : nat_eq y x ≡ false = grind (arith, nat_tests, n) in
    let alone : list_any (nat_eq y) ys ≡ false = grind (arith, d) in
    let before : are_distinct ys ≡ true = grind (arith, d) in
    let others : list_any (nat_eq x) ys ≡ false = grind (arith, n) in
    rw (list_any-push y x ys, alone, apart, are_distinct-push ys x before others) refl

-- numbers with one that is among those before it are not distinct
are_distinct-again : (xs : List ℕ) (x : ℕ) (ys : List ℕ) → list_any (nat_eq x) xs ≡ true → are_distinct (xs ++ x ∷ ys) ≡ false
are_distinct-again [] x ys h = cc
are_distinct-again (y ∷ rest) x ys h = by_head (nat_eq x y) refl h (are_distinct-again rest x ys)
  where
    by_head : (b : Bool) → nat_eq x y ≡ b → (b || list_any (nat_eq x) rest) ≡ true
        → (list_any (nat_eq x) rest ≡ true → are_distinct (rest ++ x ∷ ys) ≡ false)
        → (not (list_any (nat_eq y) (rest ++ x ∷ ys)) && are_distinct (rest ++ x ∷ ys)) ≡ false
    by_head true e h more =
        let same : y ≡ x = grind (arith, nat_tests) in
        rw (same, list_any-within x rest ys) refl
    by_head false e h more = by_first (list_any (nat_eq y) (rest ++ x ∷ ys)) (more h)
      where
        by_first : (b : Bool) → are_distinct (rest ++ x ∷ ys) ≡ false → (not b && are_distinct (rest ++ x ∷ ys)) ≡ false
        by_first true h = refl
        by_first false h = h

-- ---- links one by one, and the set of their numbers

-- the number of one more link
numbers_of-more : (links : List LinkSettings) (i : ℕ) (d : LinkSettings) → i < length links → numbers_of (take (i + 1) links)
    ≡ numbers_of (take i links) ++ (get_or links i d).link.0 ∷ []
numbers_of-more links i d h = rw (take_more links i d h) (map-append (λ (forms : LinkSettings). forms.link.0) (take i links) (get_or links i d ∷ []))

-- the numbers round a link
numbers_of-around : (links : List LinkSettings) (i : ℕ) (d : LinkSettings) → i < length links
    → numbers_of links ≡ numbers_of (take i links) ++ (get_or links i d).link.0 ∷ numbers_of (drop (i + 1) links)
numbers_of-around links i d h =
    let parts : links ≡ take i links ++ get_or links i d ∷ drop (i + 1) links = sym (take-append-drop i links)
    ∙ ap (λ (rest : List LinkSettings). take i links ++ rest) (drop_more links i d h) in
    ap numbers_of parts ∙ map-append (λ (forms : LinkSettings). forms.link.0) (take i links) (get_or links i d ∷ drop (i + 1) links)

-- a number that is in the set stands twice
pub again_at : (links : List LinkSettings) (i : ℕ) (d : LinkSettings) (numbers : BTreeSet ℕ) (added : Bool) → i < length links
    → ((q : ℕ) → contains nat_cmp numbers q ≡ list_any (nat_eq q) (numbers_of (take i links)))
    → added ≡ not (contains nat_cmp numbers (get_or links i d).link.0) → added ≡ false → false ≡ are_distinct (numbers_of links)
again_at links i d numbers added h members e old =
    let known : list_any (nat_eq (get_or links i d).link.0) (numbers_of (take i links)) ≡ true =
    grind (arith, e, old, members (get_or links i d).link.0) in
    rw (numbers_of-around links i d h) (sym (are_distinct-again (numbers_of (take i links)) (get_or links i d).link.0
    (numbers_of (drop (i + 1) links)) known))

-- a number that is not in the set leaves those so far distinct
pub distinct_more : (links : List LinkSettings) (i : ℕ) (d : LinkSettings) (numbers : BTreeSet ℕ) (added : Bool) → i < length links
    → are_distinct (numbers_of (take i links)) ≡ true
    → ((q : ℕ) → contains nat_cmp numbers q ≡ list_any (nat_eq q) (numbers_of (take i links)))
    → added ≡ not (contains nat_cmp numbers (get_or links i d).link.0) → added ≡ true → are_distinct (numbers_of (take (i + 1) links)) ≡ true
distinct_more links i d numbers added h distinct members e fresh =
    let new : list_any (nat_eq (get_or links i d).link.0) (numbers_of (take i links)) ≡ false =
    grind (arith, e, fresh, members (get_or links i d).link.0) in
    rw (numbers_of-more links i d h) (are_distinct-push (numbers_of (take i links)) (get_or links i d).link.0 distinct new)

-- the set has the numbers so far
pub members_more : (links : List LinkSettings) (i : ℕ) (d : LinkSettings) (old new : BTreeSet ℕ) → i < length links
    → ((q : ℕ) → contains nat_cmp old q ≡ list_any (nat_eq q) (numbers_of (take i links)))
    → Updates nat_cmp old new (get_or links i d).link.0 true
    → (q : ℕ) → contains nat_cmp new q ≡ list_any (nat_eq q) (numbers_of (take (i + 1) links))
members_more links i d old new h members updates q =
    let x = (get_or links i d).link.0 in
    rw (numbers_of-more links i d h, list_any-push q x (numbers_of (take i links)), ← members q) (updates.0 q ∙ by_equal (contains nat_cmp old q))
  where
    by_equal : (b : Bool) → cond (is_eq (nat_cmp (get_or links i d).link.0 q)) true b ≡ (b || nat_eq q (get_or links i d).link.0)
    by_equal true = grind (arith, nat_tests)
    by_equal false = grind (arith, nat_tests)
