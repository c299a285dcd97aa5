-- A finite map that has at each key the sum of what the items there have, and how it grows by an item.
use Rattle.std.proofs.Common.{◌≡◌, ℕ, ◌+◌, Bool, true, false, cond, ◌||◌, List, [], ◌∷◌, ◌++◌, Option, Some, None, refl, sym, ap, ◌∙◌, arith, zero-add}
use Rattle.std.proofs.lemmas.Cmp.{tied_itself}
use Rattle.std.proofs.lemmas.List.{nil_from_length}
use Rattle.std.proofs.lemmas.List.Folds.{list_any-append}
use Rattle.std.proofs.lemmas.List.Sums.{sum_by-append, sum_by-cons}
use Rattle.std.specs.Prelude.{map, unwrap_or}
use Rattle.std.specs.List.{list_any, sum_by}
use Rattle.std.specs.declared.cmp.Ordering.{Ordering}
use Rattle.std.specs.declared.cmp.Ordering.TheVariants.{Less, Equal, Greater}
use Rattle.std.specs.Ordering.{eq_by_cmp, is_eq, match_ordering}
use Rattle.std.specs.Cmp.{IsTotalOrder}
use Rattle.std.specs.BTreeMap.{insert_entry, is_at}
use Rattle.std.specs.Map.{lookup}
use Rattle.std.specs.FinMap.{FinMap, IsAntisymmetric, empty, entries, entries-insert, find, from_entries, get, get-entries, get-from_entries, get-insert, insert, len-empty, len-entries, put, same_map}
use Rattle.std.specs.FinMap.Entries.{by_order}

-- ---- what an ordered map of std does, as finite maps do it

module _ {K X : Type 0} (R : K → K → Ordering) where
  placed : (r : Ordering) (k : K) (x : X) (e : K × X) (es more rest : List (K × X)) → more ≡ rest
      → match_ordering r ((k, x) ∷ e ∷ es) ((e.0, x) ∷ es) (e ∷ more) ≡ by_order r ((k, x) ∷ e ∷ es) ((e.0, x) ∷ es) (e ∷ rest)
  placed Less k x e es more rest h = refl
  placed Equal k x e es more rest h = refl
  placed Greater k x e es more rest h = ap (λ (l : List (K × X)). e ∷ l) h

  pub inserts : (es : List (K × X)) (k : K) (x : X) → insert_entry R es k x ≡ put R k x es
  inserts [] k x = refl
  inserts (e ∷ es) k x = placed (R k e.0) k x e es _ _ (inserts es k x)

  pub looks_up : (es : List (K × X)) (k : K) → lookup (is_at (R k)) es ≡ find R k es
  looks_up [] k = refl
  looks_up (e ∷ es) k = ap (λ (rest : Option X). cond (is_eq (R k e.0)) (Some e.1) rest) (looks_up es k)

-- the entries of a map that a list makes, one put after the other
module _ {K X : Type 0} {R : K → K → Ordering} (o : IsTotalOrder R) where
  abbrev pub puts : List (K × X) → List (K × X)
  puts [] = []
  puts (e ∷ es) = put R e.0 e.1 (puts es)

  pub entries-puts : (es : List (K × X)) → entries (from_entries {R = R} es) ≡ puts es
  entries-puts [] = nil_from_length (entries (empty {X = X} {R = R})) (sym (len-entries (empty {X = X} {R = R})) ∙ len-empty R X)
  entries-puts (e ∷ es) = entries-insert o (from_entries es) e.0 e.1 ∙ ap (λ (l : List (K × X)). put R e.0 e.1 l) (entries-puts es)

-- ---- sums

module _ {A K : Type 0} {R : K → K → Ordering} (o : IsTotalOrder R) (exact : IsAntisymmetric R) (key : A → K) (count : A → ℕ) where
  abbrev pub total : K → List A → ℕ
  total q xs = sum_by (λ x. cond (eq_by_cmp R q (key x)) (count x) 0) xs

  abbrev pub totals : List A → FinMap R ℕ
  totals xs = from_entries (map (λ x. (key x, total (key x) xs)) xs)

  abbrev stands : K → List A → Bool
  stands q xs = list_any (λ x. eq_by_cmp R q (key x)) xs

  tied : (r : Ordering) → is_eq r ≡ true → r ≡ Equal
  tied Less e = cc
  tied Equal e = refl
  tied Greater e = cc

  same_key : (q k : K) → eq_by_cmp R q k ≡ true → q ≡ k
  same_key q k e = exact q k (tied (R q k) e)

  find_at : (n : K → ℕ) (xs : List A) (q : K) → find R q (map (λ x. (key x, n (key x))) xs) ≡ cond (stands q xs) (Some (n q)) None
  find_at n [] q = refl
  find_at n (x ∷ xs) q =
      elim (eq_by_cmp R q (key x)) as (λ b. eq_by_cmp R q (key x) ≡ b → cond b (Some (n (key x))) (find R q (map (λ x. (key x, n (key x))) xs))
      ≡ cond (b || stands q xs) (Some (n q)) None) [
        | true ↦ λ e. ap (λ (k : K). Some (n k)) (sym (same_key q (key x) e))
        | false ↦ λ e. find_at n xs q
      ] refl

  get-totals : (xs : List A) (q : K) → get (totals xs) q ≡ cond (stands q xs) (Some (total q xs)) None
  get-totals xs q = get-from_entries o _ q ∙ find_at (λ k. total k xs) xs q

  total-cons : (q : K) (x : A) (xs : List A) → total q (x ∷ xs) ≡ cond (eq_by_cmp R q (key x)) (count x) 0 + total q xs
  total-cons q x xs = sum_by-cons (λ x. cond (eq_by_cmp R q (key x)) (count x) 0) x xs

  none-stands : (q : K) (xs : List A) → stands q xs ≡ false → total q xs ≡ 0
  none-stands q [] h = refl
  none-stands q (x ∷ xs) h =
      total-cons q x xs ∙ elim (eq_by_cmp R q (key x)) as (λ b. (b || stands q xs) ≡ false → cond b (count x) 0 + total q xs ≡ 0) [
        | true ↦ λ e. cc
        | false ↦ λ e. zero-add (total q xs) ∙ none-stands q xs e
      ] h

  -- the sum at a key is read off the map
  pub read-total : (xs : List A) (q : K) → unwrap_or (get (totals xs) q) 0 ≡ total q xs
  read-total xs q =
      ap (λ (c : Option ℕ). unwrap_or c 0) (get-totals xs q)
      ∙ elim (stands q xs) as (λ b. stands q xs ≡ b → unwrap_or (cond b (Some (total q xs)) None) 0 ≡ total q xs) [
        | true ↦ λ e. refl
        | false ↦ λ e. sym (none-stands q xs e)
      ] refl

  stands-more : (q : K) (xs : List A) (x : A) → stands q (xs ++ x ∷ []) ≡ (stands q xs || eq_by_cmp R q (key x))
  stands-more q [] x = elim (eq_by_cmp R q (key x)) as (λ b. (b || false) ≡ (false || b)) [ true ↦ refl | false ↦ refl ]
  stands-more q (y ∷ ys) x =
      elim (eq_by_cmp R q (key y)) as (λ b. (b || stands q (ys ++ x ∷ [])) ≡ ((b || stands q ys) || eq_by_cmp R q (key x))) [
        | true ↦ refl
        | false ↦ stands-more q ys x
      ]

  pub total-more : (q : K) (xs : List A) (x : A) → total q (xs ++ x ∷ []) ≡ total q xs + cond (eq_by_cmp R q (key x)) (count x) 0
  total-more q xs x =
      sum_by-append (λ x. cond (eq_by_cmp R q (key x)) (count x) 0) xs (x ∷ [])
      ∙ ap (λ (n : ℕ). total q xs + n) (total-cons q x [] ∙ omega arith)

  pub total-itself : (xs : List A) (x : A) → total (key x) (xs ++ x ∷ []) ≡ total (key x) xs + count x
  total-itself xs x = total-more (key x) xs x ∙ ap (λ (r : Ordering). total (key x) xs + cond (is_eq r) (count x) 0) (tied_itself o (key x))

  more_at : (b s : Bool) (n m t : ℕ) → (b ≡ true → m ≡ t) → cond (s || b) (Some (t + cond b n 0)) None ≡ cond b (Some (m + n)) (cond s (Some t) None)
  more_at true true n m t e = ap (λ (k : ℕ). Some (k + n)) (sym (e refl))
  more_at true false n m t e = ap (λ (k : ℕ). Some (k + n)) (sym (e refl))
  more_at false true n m t e = ap (λ (k : ℕ). Some k) (omega arith)
  more_at false false n m t e = refl

  -- an item more
  pub totals-more : (xs : List A) (x : A) → totals (xs ++ x ∷ []) ≡ insert (totals xs) (key x) (total (key x) xs + count x)
  totals-more xs x = same_map o exact _ _ (λ q.
      get-totals (xs ++ x ∷ []) q
      ∙ (λ i. cond (stands-more q xs x i) (Some (total-more q xs x i)) None)
      ∙ more_at (eq_by_cmp R q (key x)) (stands q xs) (count x) (total (key x) xs) (total q xs) (λ e. ap (λ (k : K). total k xs) (sym (same_key q (key x) e)))
      ∙ (λ i. cond (eq_by_cmp R q (key x)) (Some (total (key x) xs + count x)) (sym (get-totals xs q) i))
      ∙ sym (get-insert o (totals xs) (key x) (total (key x) xs + count x) q))

  -- the same in the order of keys
  pub entries-more : (xs : List A) (x : A) (n : ℕ) → n ≡ total (key x) xs + count x
      → insert_entry R (entries (totals xs)) (key x) n ≡ entries (totals (xs ++ x ∷ []))
  entries-more xs x n is =
      ap (λ (n : ℕ). insert_entry R (entries (totals xs)) (key x) n) is
      ∙ inserts R (entries (totals xs)) (key x) (total (key x) xs + count x)
      ∙ sym (entries-insert o (totals xs) (key x) (total (key x) xs + count x)) ∙ ap entries (sym (totals-more xs x))

  pub lookup-total : (xs : List A) (q : K) → unwrap_or (lookup (is_at (R q)) (entries (totals xs))) 0 ≡ total q xs
  lookup-total xs q =
      ap (λ (c : Option ℕ). unwrap_or c 0) (looks_up R (entries (totals xs)) q ∙ sym (get-entries (totals xs) q)) ∙ read-total xs q

  -- at first there is none
  pub entries-none : entries (totals []) ≡ []
  entries-none = nil_from_length (entries (empty {X = ℕ} {R = R})) (sym (len-entries (empty {X = ℕ} {R = R})) ∙ len-empty R ℕ)

  or-turned : (a b : Bool) → (a || b) ≡ (b || a)
  or-turned true true = refl
  or-turned true false = refl
  or-turned false true = refl
  or-turned false false = refl

  stands-turned : (q : K) (xs ys : List A) → stands q (xs ++ ys) ≡ stands q (ys ++ xs)
  stands-turned q xs ys =
      list_any-append (λ x. eq_by_cmp R q (key x)) xs ys ∙ or-turned (stands q xs) (stands q ys)
      ∙ sym (list_any-append (λ x. eq_by_cmp R q (key x)) ys xs)

  total-turned : (q : K) (xs ys : List A) → total q (xs ++ ys) ≡ total q (ys ++ xs)
  total-turned q xs ys =
      omega (
        arith,
        sum_by-append (λ x. cond (eq_by_cmp R q (key x)) (count x) 0) xs ys,
        sum_by-append (λ x. cond (eq_by_cmp R q (key x)) (count x) 0) ys xs,
      )

  -- the order of two lists of items doesn't matter
  pub totals-turned : (xs ys : List A) → totals (xs ++ ys) ≡ totals (ys ++ xs)
  totals-turned xs ys = same_map o exact _ _ (λ q.
      get-totals (xs ++ ys) q ∙ (λ i. cond (stands-turned q xs ys i) (Some (total-turned q xs ys i)) None) ∙ sym (get-totals (ys ++ xs) q))
