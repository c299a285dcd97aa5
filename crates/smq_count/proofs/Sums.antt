-- The counts of tuples that pass a test add up to the number of what has such a tuple.
use Rattle.std.proofs.Common.{◌≡◌, ℕ, ◌+◌, Bool, true, false, cond, ◌&&◌, List, [], ◌∷◌, ◌++◌, Some, None, subst, refl, sym, ap, ◌∙◌, arith}
use Rattle.std.proofs.lemmas.List.{append-nil, append_assoc}
use Rattle.std.proofs.lemmas.List.Sums.{sum_by-append, sum_by-cons}
use Rattle.std.specs.Prelude.{T, count_by, unwrap_or}
use Rattle.std.specs.List.{sum_by}
use Rattle.std.specs.declared.cmp.Ordering.{Ordering}
use Rattle.std.specs.declared.cmp.Ordering.TheVariants.{Less, Equal, Greater}
use Rattle.std.specs.Ordering.{is_eq, is_lt}
use Rattle.std.specs.Cmp.{IsTotalOrder}
use Rattle.std.specs.FinMap.{IsAntisymmetric, entries, entries_sorted, find, is_sorted, put}
use Rattle.std.specs.FinMap.Entries.{below_all, by_order}
use Rattle.smq_count.proofs.Tallied.{counts, counts-more, counts-none, read_number}

second : (a b : Bool) → T (a && b) → T b
second true b h = h
second false b h = absurd h

first : (a b : Bool) → T (a && b) → T a
first true b h = tt
first false b h = absurd h

both : (a b : Bool) → T a → T b → T (a && b)
both true b h k = k
both false b h k = absurd h

less : (r : Ordering) → T (is_lt r) → r ≡ Less
less Less h = refl
less Equal h = absurd h
less Greater h = absurd h

module _ {K : Type 0} {R : K → K → Ordering} (o : IsTotalOrder R) (exact : IsAntisymmetric R) (p : K → Bool) where
  abbrev weigh : K × ℕ → ℕ
  weigh e = cond (p e.0) e.1 0

  find-none : (k : K) (es : List (K × ℕ)) → T (below_all R k es) → find R k es ≡ None
  find-none k [] h = refl
  find-none k (e ∷ es) h =
      elim (R k e.0) as (λ r. T (is_lt r && below_all R k es) → cond (is_eq r) (Some e.1) (find R k es) ≡ None) [
        | Less ↦ λ g. find-none k es g
        | Equal ↦ λ g. absurd g
        | Greater ↦ λ g. absurd g
      ] h

  below-less : (x y : K) (es : List (K × ℕ)) → R x y ≡ Less → T (below_all R y es) → T (below_all R x es)
  below-less x y [] h below = tt
  below-less x y (e ∷ es) h below =
      both _ _ (subst (λ r. T (is_lt r)) (sym (o.trans x y e.0 h (less _ (first _ _ below)))) tt) (below-less x y es h (second _ _ below))

  one_more : (b : Bool) (n m : ℕ) → cond b (n + 1) 0 + m ≡ (cond b n 0 + m) + cond b 1 0
  one_more true n m = omega arith
  one_more false n m = omega arith

  weight-put : (es : List (K × ℕ)) (k : K) → T (is_sorted R es)
      → sum_by weigh (put R k (unwrap_or (find R k es) 0 + 1) es) ≡ sum_by weigh es + cond (p k) 1 0
  weight-put [] k s = refl
  weight-put (e ∷ es) k s =
      elim (R k e.0) as (λ r. R k e.0 ≡ r → sum_by weigh (by_order r ((k, unwrap_or (cond (is_eq r) (Some e.1) (find R k es)) 0 + 1) ∷ e ∷ es)
      ((e.0, unwrap_or (cond (is_eq r) (Some e.1) (find R k es)) 0 + 1) ∷ es) (e ∷ put R k (unwrap_or (cond (is_eq r) (Some e.1) (find R k es)) 0 + 1) es))
      ≡ sum_by weigh (e ∷ es) + cond (p k) 1 0) [
        | Less ↦ λ h.
            (λ i. sum_by weigh ((k, unwrap_or (find-none k es (below-less k e.0 es h (first _ _ s)) i) 0 + 1) ∷ e ∷ es))
            ∙ sum_by-cons weigh (k, 1) (e ∷ es) ∙ omega arith
        | Equal ↦ λ h.
            sum_by-cons weigh (e.0, e.1 + 1) es ∙ one_more (p e.0) e.1 (sum_by weigh es)
            ∙ (λ i. sym (sum_by-cons weigh e es) i + cond (p (sym (exact k e.0 h) i)) 1 0)
        | Greater ↦ λ h.
            sum_by-cons weigh e (put R k (unwrap_or (find R k es) 0 + 1) es) ∙ ap (λ (n : ℕ). weigh e + n) (weight-put es k (second _ _ s))
            ∙ omega (arith, sum_by-cons weigh e es)
      ] refl

  weight-more : (ks : List K) (k : K) → sum_by weigh (entries (counts o exact ks)) ≡ count_by p ks
      → sum_by weigh (entries (counts o exact (ks ++ k ∷ []))) ≡ count_by p (ks ++ k ∷ [])
  weight-more ks k h =
      ap (λ (es : List (K × ℕ)). sum_by weigh es) (sym (counts-more o exact ks k))
      ∙ (λ i. sum_by weigh (put R k (sym (read_number o exact ks k) i + 1) (entries (counts o exact ks))))
      ∙ weight-put (entries (counts o exact ks)) k (entries_sorted (counts o exact ks))
      ∙ omega (arith, h, sum_by-append (λ x. cond (p x) 1 0) ks (k ∷ []), sum_by-cons (λ x. cond (p x) 1 0) k [])

  weight-after : (ks more : List K) → sum_by weigh (entries (counts o exact ks)) ≡ count_by p ks
      → sum_by weigh (entries (counts o exact (ks ++ more))) ≡ count_by p (ks ++ more)
  weight-after ks [] h = rw (append-nil ks) h
  weight-after ks (k ∷ more) h = rw (← append_assoc ks (k ∷ []) more) (weight-after (ks ++ k ∷ []) more (weight-more ks k h))

  pub counts-add_up : (ks : List K) → sum_by weigh (entries (counts o exact ks)) ≡ count_by p ks
  counts-add_up ks = weight-after [] ks (ap (λ (es : List (K × ℕ)). sum_by weigh es) (counts-none o exact))
