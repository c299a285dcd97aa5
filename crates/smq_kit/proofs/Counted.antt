-- A finite map that has at each key the number of the items that stand there.
use Rattle.std.proofs.Common.{◌≡◌, ℕ, zero, suc, ◌+◌, Bool, true, false, cond, ◌||◌, List, [], ◌∷◌, ◌++◌, Some, None, refl, sym, ap, ◌∙◌, arith, zero-add}
use Rattle.std.proofs.lemmas.List.Sums.{sum_by-cons}
use Rattle.std.specs.Prelude.{map, count_by, unwrap_or}
use Rattle.std.specs.List.{flat_map, list_any}
use Rattle.std.specs.declared.cmp.Ordering.{Ordering}
use Rattle.std.specs.Ordering.{eq_by_cmp}
use Rattle.std.specs.Cmp.{IsTotalOrder}
use Rattle.smq_kit.specs.Maps.{positive}
use Rattle.smq_kit.proofs.Comparisons.{is_equal}
use Rattle.std.specs.FinMap.{FinMap, IsAntisymmetric, get, insert, from_entries, find, get-from_entries, get-insert, same_map}

abbrev above_zero : ℕ → Bool
above_zero zero = false
above_zero (suc n) = true

above_one : (n : ℕ) → true ≡ above_zero (1 + n)
above_one n = let e : 1 + n ≡ suc n = omega arith in rw e refl

whole : (n : ℕ) → cond (above_zero n) (Some n) None ≡ positive n
whole zero = refl
whole (suc n) = refl

module _ {A K : Type 0} {R : K → K → Ordering} (o : IsTotalOrder R) (exact : IsAntisymmetric R) (keys : A → List K) where
  abbrev pub stands : K → A → Bool
  stands k x = list_any (eq_by_cmp R k) (keys x)

  abbrev pub number : K → List A → ℕ
  number k xs = count_by (stands k) xs

  abbrev pub counted : List A → FinMap R ℕ
  counted xs = from_entries (map (λ k. (k, number k xs)) (flat_map keys xs))

  -- a look-up in keys with a function's value at each
  find_at : (n : K → ℕ) (ks : List K) (q : K) → find R q (map (λ k. (k, n k)) ks) ≡ cond (list_any (eq_by_cmp R q) ks) (Some (n q)) None
  find_at n [] q = refl
  find_at n (k ∷ ks) q =
      elim (eq_by_cmp R q k) as (λ b. eq_by_cmp R q k ≡ b → cond b (Some (n k)) (find R q (map (λ k. (k, n k)) ks))
      ≡ cond (b || list_any (eq_by_cmp R q) ks) (Some (n q)) None) [
        | true ↦ λ e. ap (λ (x : K). Some (n x)) (sym (exact q k (is_equal (R q k) e)))
        | false ↦ λ e. find_at n ks q
      ] refl

  any-append : (p : K → Bool) (xs ys : List K) → list_any p (xs ++ ys) ≡ (list_any p xs || list_any p ys)
  any-append p [] ys = refl
  any-append p (x ∷ xs) ys = elim (p x) as (λ b. (b || list_any p (xs ++ ys)) ≡ ((b || list_any p xs) || list_any p ys)) [
    | true ↦
        refl
    | false ↦ any-append p xs ys
  ]

  pub number-cons : (k : K) (x : A) (xs : List A) → number k (x ∷ xs) ≡ cond (stands k x) 1 0 + number k xs
  number-cons k x xs = sum_by-cons (λ y. cond (stands k y) 1 0) x xs

  -- an item stands at a key exactly where the key is among the keys of the items
  any_stands : (q : K) (xs : List A) → list_any (eq_by_cmp R q) (flat_map keys xs) ≡ above_zero (number q xs)
  any_stands q [] = refl
  any_stands q (x ∷ xs) =
      any-append (eq_by_cmp R q) (keys x) (flat_map keys xs)
      ∙ elim (stands q x) as (λ b. (b || list_any (eq_by_cmp R q) (flat_map keys xs)) ≡ above_zero (cond b 1 0 + number q xs)) [
        | true ↦ above_one (number q xs)
        | false ↦ any_stands q xs ∙ ap above_zero (sym (zero-add (number q xs)))
      ]
      ∙ ap above_zero (sym (number-cons q x xs))

  -- what the map has at a key
  pub get-counted : (xs : List A) (q : K) → get (counted xs) q ≡ positive (number q xs)
  get-counted xs q =
      get-from_entries o _ q
      ∙ find_at (λ k. number k xs) (flat_map keys xs) q
      ∙ ap (λ b. cond b (Some (number q xs)) None) (any_stands q xs)
      ∙ whole (number q xs)

  -- ---- maps by the numbers that they have

  -- the map has the number of each key, where it isn't 0
  pub record Has (m : FinMap R ℕ) (n : K → ℕ) : Type 0 where
    pub at : (q : K) → get m q ≡ positive (n q)

  pub has-one : (m p : FinMap R ℕ) (n : K → ℕ) → Has m n → Has p n → m ≡ p
  has-one m p n h k = same_map o exact m p (λ q. h.at q ∙ sym (k.at q))

  pub has-counted : (xs : List A) → Has (counted xs) (λ q. number q xs)
  has-counted xs = record { at = get-counted xs }

  pub has-same : (m : FinMap R ℕ) (n p : K → ℕ) → Has m n → ((q : K) → n q ≡ p q) → Has m p
  has-same m n p h e = record { at = λ q. h.at q ∙ ap positive (e q) }

  count-positive : (n : ℕ) → unwrap_or (positive n) 0 ≡ n
  count-positive zero = refl
  count-positive (suc n) = refl

  -- the number is read off the map
  pub has-count : (m : FinMap R ℕ) (n : K → ℕ) → Has m n → (q : K) → unwrap_or (get m q) 0 ≡ n q
  has-count m n h q = ap (λ c. unwrap_or c 0) (h.at q) ∙ count-positive (n q)

  more_at : (b : Bool) (c d : ℕ) → (b ≡ true → c ≡ d) → cond b (Some (c + 1)) (positive d) ≡ positive (d + cond b 1 0)
  more_at true c d e = let same : c + 1 ≡ suc d = omega (arith, e refl) in let next : d + 1 ≡ suc d = omega arith in rw (same, next) refl
  more_at false c d e = let same : d + 0 ≡ d = omega arith in rw same refl

  number_tied : (n : K → ℕ) (q k : K) → eq_by_cmp R q k ≡ true → n k ≡ n q
  number_tied n q k e = ap n (sym (exact q k (is_equal (R q k) e)))

  pub has-more : (m : FinMap R ℕ) (n : K → ℕ) (k : K) → Has m n → Has (insert m k (unwrap_or (get m k) 0 + 1)) (λ q. n q + cond (eq_by_cmp R q k) 1 0)
  has-more m n k h = record {
    at = λ q.
        get-insert o m k (unwrap_or (get m k) 0 + 1) q
        ∙ (λ i. cond (eq_by_cmp R q k) (Some (has-count m n h k i + 1)) (h.at q i))
        ∙ more_at (eq_by_cmp R q k) (n k) (n q) (number_tied n q k);
  }
