-- The index of the element of a rank, with one element more at the end.
use Rattle.std.proofs.Common.{◌≡◌, ℕ, zero, suc, ◌+◌, ◌<◌, ◌≤◌, subst, Bool, true, false, cond, List, [], ◌∷◌, ◌++◌, length, Option, Some, None, refl, sym, ap, ◌∙◌, arith, zero-add}
use Rattle.std.specs.Prelude.{◌==◌, ◌&&◌, count_by, map, option_map, slice_get}
use mathlib.Core.Bool.{and-false}
use Rattle.std.proofs.lemmas.Bool.Decides.{nat_tests}
use Rattle.std.proofs.lemmas.List.Sums.{sum_by-cons}
use Rattle.smq_pdu.specs.Pairing.{nth_index}

-- ---- the element that passes a test and before which so many pass it

mapped : (b : Bool) (n : ℕ) (o : Option ℕ) → option_map suc (cond b (Some n) o) ≡ cond b (Some (suc n)) (option_map suc o)
mapped true n o = refl
mapped false n o = refl

module _ {X : Type 0} (p : X → Bool) where
  -- what is found where one element more stands at the end
  abbrev with_last : Bool → ℕ → ℕ → ℕ → Option ℕ → Option ℕ
  with_last passes rank count n found = cond (passes && rank == count) (Some n) found

  first-last : (x : X) (rank : ℕ) (b : Bool) → p x ≡ b → nth_index p (x ∷ []) rank ≡ with_last b rank 0 0 None
  unfolding nth_index
  first-last x zero true e = rw e refl
  first-last x zero false e = rw e refl
  first-last x (suc rank) true e = let other : (suc rank == 0) ≡ false = grind (arith, nat_tests) in rw other refl
  first-last x (suc rank) false e = refl

  count-cons : (x : X) (xs : List X) → count_by p (x ∷ xs) ≡ cond (p x) 1 0 + count_by p xs
  count-cons x xs = sum_by-cons (λ y. cond (p y) 1 0) x xs

  skipped : (x : X) (xs : List X) (k : ℕ) → p x ≡ false → nth_index p (x ∷ xs) k ≡ option_map suc (nth_index p xs k)
  unfolding nth_index
  skipped x xs zero e = rw e refl
  skipped x xs (suc k) e = rw e refl

  taken : (x : X) (xs : List X) (k : ℕ) → p x ≡ true → nth_index p (x ∷ xs) (suc k) ≡ option_map suc (nth_index p xs k)
  unfolding nth_index
  taken x xs k e = rw e refl

  more : (y : X) (ys : List X) (x : X) (rank : ℕ) (b : Bool) → p y ≡ b
      → ((r : ℕ) → nth_index p (ys ++ x ∷ []) r ≡ with_last (p x) r (count_by p ys) (length ys) (nth_index p ys r))
      → nth_index p (y ∷ (ys ++ x ∷ [])) rank
      ≡ with_last (p x) rank (cond b 1 0 + count_by p ys) (suc (length ys)) (nth_index p (y ∷ ys) rank)
  unfolding nth_index
  more y ys x rank false e ih = rw (skipped y (ys ++ x ∷ []) rank e, ih rank, skipped y ys rank e, zero-add (count_by p ys))
      (mapped (p x && rank == count_by p ys) (length ys) (nth_index p ys rank))
  more y ys x zero true e ih =
      let other : (0 == 1 + count_by p ys) ≡ false = grind (arith, nat_tests) in rw (e, other, and-false (p x)) refl
  more y ys x (suc rank) true e ih =
      let same : (rank == count_by p ys) ≡ (suc rank == 1 + count_by p ys) = grind (arith, nat_tests) in
      rw (taken y (ys ++ x ∷ []) rank e, ih rank, taken y ys rank e, ← same)
      (mapped (p x && rank == count_by p ys) (length ys) (nth_index p ys rank))

  -- one element more at the end adds its own place alone, at the rank that so many before it make
  pub place-last : (xs : List X) (x : X) (rank : ℕ) → nth_index p (xs ++ x ∷ []) rank
      ≡ with_last (p x) rank (count_by p xs) (length xs) (nth_index p xs rank)
  unfolding nth_index
  place-last [] x rank = first-last x rank (p x) refl
  place-last (y ∷ ys) x rank = rw (count-cons y ys) (more y ys x rank (p y) refl (place-last ys x))

  -- elements have the ranks below so many as pass, and no others
  none_from : (x : X) (xs : List X) (b : Bool) → p x ≡ b → ((k : ℕ) → count_by p xs ≤ k → nth_index p xs k ≡ None)
      → (k : ℕ) → cond b 1 0 + count_by p xs ≤ k → nth_index p (x ∷ xs) k ≡ None
  none_from x xs true e ih zero h = absurd (omega (arith, h))
  none_from x xs true e ih (suc k) h = taken x xs k e ∙ ap (option_map suc) (ih k (omega (arith, h)))
  none_from x xs false e ih k h = skipped x xs k e ∙ ap (option_map suc) (ih k (omega (arith, h)))

  pub none-beyond : (xs : List X) (k : ℕ) → count_by p xs ≤ k → nth_index p xs k ≡ None
  unfolding nth_index
  none-beyond [] k h = refl
  none-beyond (x ∷ xs) k h = none_from x xs (p x) refl (none-beyond xs) k (subst (λ n. n ≤ k) (count-cons x xs) h)

  some_from : (x : X) (xs : List X) (b : Bool) → p x ≡ b → ((k : ℕ) → k < count_by p xs → (i : ℕ) × (nth_index p xs k ≡ Some i))
      → (k : ℕ) → k < cond b 1 0 + count_by p xs → (i : ℕ) × (nth_index p (x ∷ xs) k ≡ Some i)
  unfolding nth_index
  some_from x xs true e ih zero h = (0, rw e refl)
  some_from x xs true e ih (suc k) h = let r = ih k (omega (arith, h)) in (suc r.0, taken x xs k e ∙ ap (option_map suc) r.1)
  some_from x xs false e ih k h = let r = ih k (omega (arith, h)) in (suc r.0, skipped x xs k e ∙ ap (option_map suc) r.1)

  pub some-within : (xs : List X) (k : ℕ) → k < count_by p xs → (i : ℕ) × (nth_index p xs k ≡ Some i)
  some-within [] k h = absurd (omega (arith, h))
  some-within (x ∷ xs) k h = some_from x xs (p x) refl (some-within xs) k (subst (λ n. k < n) (count-cons x xs) h)

  pub place-none : (xs : List X) → nth_index p xs (count_by p xs) ≡ None
  place-none xs = none-beyond xs (count_by p xs) (omega arith)

-- ---- lists

module _ {X : Type 0} where
  pub some-is : (x y : X) → Some x ≡ Some y → x ≡ y
  some-is x y e = cc

  pub get-last : (xs : List X) (y : X) → slice_get (xs ++ y ∷ []) (length xs) ≡ Some y
  get-last [] y = refl
  get-last (x ∷ xs) y = get-last xs y

  pub get-front : (xs ys : List X) (i : ℕ) (x : X) → slice_get xs i ≡ Some x → slice_get (xs ++ ys) i ≡ Some x
  get-front [] ys i x h = absurd cc
  get-front (z ∷ xs) ys zero x h = h
  get-front (z ∷ xs) ys (suc i) x h = get-front xs ys i x h

  -- where what is made of an element stands, the element does
  pub get-mapped : {Y : Type 0} (f : X → Y) (xs : List X) (i : ℕ) (y : Y) → slice_get (map f xs) i ≡ Some y
      → (x : X) × (slice_get xs i ≡ Some x)
  get-mapped f [] i y h = absurd cc
  get-mapped f (x ∷ xs) zero y h = (x, refl)
  get-mapped f (x ∷ xs) (suc i) y h = get-mapped f xs i y h

  -- what stands in a list with one more at the end
  pub get-either : {A : Type 0} (xs : List X) (y : X) (i : ℕ) (x : X) → slice_get (xs ++ y ∷ []) i ≡ Some x
      → (slice_get xs i ≡ Some x → A) → (i ≡ length xs → x ≡ y → A) → A
  get-either [] y zero x h f g = g refl (sym (some-is y x h))
  get-either [] y (suc i) x h f g = absurd cc
  get-either (z ∷ xs) y zero x h f g = f h
  get-either (z ∷ xs) y (suc i) x h f g = get-either xs y i x h f (λ e. g (ap suc e))

  pub one_of : (o : Option X) (x y : X) → o ≡ Some x → o ≡ Some y → x ≡ y
  one_of o x y e f = cc

  pub never : {A : Type 0} (o : Option X) (x : X) → o ≡ None → o ≡ Some x → A
  never o x e f = absurd cc
