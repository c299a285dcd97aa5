-- How often the keys of two lists are one.
use Rattle.std.proofs.Common.{◌≡◌, ℕ, ◌+◌, ◌*◌, ◌≤◌, Bool, true, false, cond, ◌||◌, List, [], ◌∷◌, refl, sym, ap, ◌∙◌, arith}
use Rattle.std.specs.Prelude.{count_by}
use Rattle.std.specs.List.{list_any, sum_by}
use Rattle.std.proofs.lemmas.Bool.{false≢true}
use Rattle.std.proofs.lemmas.List.Sums.{sum_by-cons}
use Rattle.smq_kit.specs.declared.link_key.LinkKey.{LinkKey}
use Rattle.smq_kit.specs.LinkKeys.{same_key}
use Rattle.smq_group.proofs.Earliest.{one_key, own_key}

abbrev pub hits : LinkKey → List LinkKey → ℕ
hits k ks = count_by (same_key k) ks

abbrev pub meets : List LinkKey → List LinkKey → ℕ
meets xs ys = sum_by (λ x. hits x ys) xs

-- a list without the first that is this key
abbrev without : LinkKey → List LinkKey → List LinkKey
without x [] = []
without x (y ∷ ys) = cond (same_key x y) ys (y ∷ without x ys)

turned : (a b : LinkKey) → same_key a b ≡ same_key b a
turned a b = by (same_key a b) refl (same_key b a) refl
  where
    by : (c : Bool) → same_key a b ≡ c → (d : Bool) → same_key b a ≡ d → c ≡ d
    by true s true t = refl
    by false s false t = refl
    by true s false t = absurd (false≢true (sym t ∙ ap (same_key b) (one_key a b s) ∙ own_key b))
    by false s true t = absurd (false≢true (sym s ∙ ap (same_key a) (one_key b a t) ∙ own_key a))

none-hit : (x : LinkKey) (ys : List LinkKey) → list_any (same_key x) ys ≡ false → hits x ys ≡ 0
none-hit x [] h = refl
none-hit x (y ∷ ys) h = by (none-hit x ys) (same_key x y) refl h
  where
    by : (list_any (same_key x) ys ≡ false → hits x ys ≡ 0) → (b : Bool) → same_key x y ≡ b → (b || list_any (same_key x) ys) ≡ false → hits x (y ∷ ys) ≡ 0
    by later true t h = absurd (false≢true (sym h))
    by later false t h =
        let sum = sum_by-cons (λ c. cond (same_key x c) 1 0) y ys in
        let none : ◌≡◌ {A = ℕ} (cond (same_key x y) 1 0) 0 = ap (λ b. cond b 1 0) t in
        let rest = later h in
        omega (arith, sum, none, rest)

taken-out : (h : LinkKey → ℕ) (x : LinkKey) (ys : List LinkKey) → list_any (same_key x) ys ≡ true → sum_by h ys ≡ h x + sum_by h (without x ys)
taken-out h x [] a = absurd (false≢true a)
taken-out h x (y ∷ ys) a = by (taken-out h x ys) (same_key x y) refl a
  where
    by : (list_any (same_key x) ys ≡ true → sum_by h ys ≡ h x + sum_by h (without x ys)) → (b : Bool) → same_key x y ≡ b
        → (b || list_any (same_key x) ys) ≡ true → sum_by h (y ∷ ys) ≡ h x + sum_by h (cond b ys (y ∷ without x ys))
    by later true t a =
        let sum = sum_by-cons h y ys in
        let one = ap h (one_key x y t) in
        omega (arith, sum, one)
    by later false t a =
        let sum = sum_by-cons h y ys in
        let more = sum_by-cons h y (without x ys) in
        let rest = later a in
        omega (arith, sum, more, rest)

-- those of a list that are this key, counted from either side
sides : (x : LinkKey) (ys : List LinkKey) → sum_by (λ y. cond (same_key y x) 1 0) ys ≡ hits x ys
sides x [] = refl
sides x (y ∷ ys) =
    let a = sum_by-cons (λ y. cond (same_key y x) 1 0) y ys in
    let b = sum_by-cons (λ c. cond (same_key x c) 1 0) y ys in
    let same : ◌≡◌ {A = ℕ} (cond (same_key y x) 1 0) (cond (same_key x y) 1 0) = ap (λ c. cond c 1 0) (turned y x) in
    let rest = sides x ys in
    omega (arith, a, b, same, rest)

sum-both : {X : Type 0} (f g h : X → ℕ) → ((x : X) → h x ≡ f x + g x) → (xs : List X) → sum_by h xs ≡ sum_by f xs + sum_by g xs
sum-both f g h each [] = refl
sum-both f g h each (x ∷ xs) =
    let a = sum_by-cons f x xs in
    let b = sum_by-cons g x xs in
    let c = sum_by-cons h x xs in
    let one = each x in
    let rest = sum-both f g h each xs in
    omega (arith, a, b, c, one, rest)

meets-more : (xs : List LinkKey) (y : LinkKey) (ys : List LinkKey) → meets xs (y ∷ ys) ≡ hits y xs + meets xs ys
meets-more xs y ys =
    let both = sum-both (λ x. cond (same_key x y) 1 0) (λ x. hits x ys) (λ x. hits x (y ∷ ys)) (λ x. sum_by-cons (λ c. cond (same_key x c) 1 0) y ys) xs in
    let side = sides y xs in
    omega (arith, both, side)

meets-without : (xs : List LinkKey) (x : LinkKey) (ys : List LinkKey) → list_any (same_key x) ys ≡ true → meets xs ys ≡ hits x xs + meets xs (without x ys)
meets-without xs x ys a =
    let both = sum-both (λ y. cond (same_key y x) 1 0) (λ y. hits y (without x ys)) (λ y. hits y ys) (λ y. taken-out (λ c. cond (same_key y c) 1 0) x ys a) xs in
    let side = sides x xs in
    omega (arith, both, side)

-- twice as many are no more than those of each list with itself
pub few-meet : (xs ys : List LinkKey) → 2 * meets xs ys ≤ meets xs xs + meets ys ys
few-meet [] ys = omega arith
few-meet (x ∷ xs) ys = by (few-meet xs) (list_any (same_key x) ys) refl
  where
    by : ((zs : List LinkKey) → 2 * meets xs zs ≤ meets xs xs + meets zs zs) → (b : Bool) → list_any (same_key x) ys ≡ b
        → 2 * meets (x ∷ xs) ys ≤ meets (x ∷ xs) (x ∷ xs) + meets ys ys
    by rest false t =
        let few = rest ys in
        let none = none-hit x ys t in
        let a = sum_by-cons (λ x. hits x ys) x xs in
        let b = sum_by-cons (λ y. hits y (x ∷ xs)) x xs in
        let c = meets-more xs x xs in
        omega (arith, few, none, a, b, c)
    by rest true t =
        let zs = without x ys in
        let few = rest zs in
        let a = sum_by-cons (λ x. hits x ys) x xs in
        let own : ◌≡◌ {A = ℕ} (cond (same_key x x) 1 0) 1 = ap (λ b. cond b 1 0) (own_key x) in
        let b = taken-out (λ c. cond (same_key x c) 1 0) x ys t in
        let c = meets-without xs x ys t in
        let d = sum_by-cons (λ y. hits y (x ∷ xs)) x xs in
        let e = sum_by-cons (λ c. cond (same_key x c) 1 0) x xs in
        let f = meets-more xs x xs in
        let g = taken-out (λ y. hits y ys) x ys t in
        let h = meets-without zs x ys t in
        omega (arith, few, a, own, b, c, d, e, f, g, h)
