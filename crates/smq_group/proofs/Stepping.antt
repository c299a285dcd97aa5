-- Look-ups of entries in the order of their keys, and the first that passes a test.
use Rattle.std.proofs.Common.{◌≡◌, Bool, true, false, cond, List, [], ◌∷◌, Some, refl, sym, ap, ◌∙◌, subst, find}
use Rattle.std.specs.declared.cmp.Ordering.{Ordering}
use Rattle.std.specs.declared.cmp.Ordering.TheVariants.{Less, Equal}
use Rattle.std.specs.Ordering.{is_gt, is_eq, ordering_reverse}
use Rattle.std.specs.Cmp.{IsTotalOrder, tied_itself, alike_right}
use Rattle.std.specs.List.{AllByRecursion}
use Rattle.std.specs.List.Sorted.{IsStrictlySortedBy}
use Rattle.std.specs.Map.{keys_of, lookup}
use Rattle.std.specs.BTreeMap.{is_at}
use Rattle.std.proofs.lemmas.Bool.{cond_both}
use Rattle.std.proofs.lemmas.Map.Keys.{sorted_head, sorted_tail}
use Rattle.smq_shelf.proofs.Walks.{found_above}

module _ {K X : Type 0} {R : K → K → Ordering} (o : IsTotalOrder R) where
  above_kept : (k j : K) (es : List (K × X)) (v : X) → AllByRecursion (λ y. R j y ≡ Less) (keys_of es) → lookup (is_at (R k)) es ≡ Some v → R j k ≡ Less
  above_kept k j [] v a h = absurd cc
  above_kept k j (e ∷ es) v a h = elim (R k e.0) as (λ r. R k e.0 ≡ r → cond (is_eq r) (Some e.1) (lookup (is_at (R k)) es) ≡ Some v → R j k ≡ Less) [
    | Equal ↦ λ r l. alike_right o k e.0 j r ∙ a.0
    | _ ↦ λ r l. above_kept k j es v a.1 l
  ] refl h

  -- what is found stands there
  pub found-there : (q : K × X → Bool) (es : List (K × X)) (f : K × X) → IsStrictlySortedBy R (keys_of es) → find q es ≡ Some f → lookup (is_at (R f.0)) es ≡ Some f.1
  found-there q [] f so h = absurd cc
  found-there q (e ∷ es) f so h = cond_both (q e) (Some e) (find q es) (λ o. o ≡ Some f → lookup (is_at (R f.0)) (e ∷ es) ≡ Some f.1)
      (λ _ n. (let s : e ≡ f = cc in subst (λ (x : K × X). lookup (is_at (R x.0)) (e ∷ es) ≡ Some x.1) s (ap (λ r. cond (is_eq r) (Some e.1) (lookup (is_at (R e.0)) es)) (tied_itself o e.0))))
      (λ _ n.
      ap (λ r. cond (is_eq r) (Some e.1) (lookup (is_at (R f.0)) es)) (o.antisymm f.0 e.0 ∙ ap ordering_reverse (found_above o q e.0 q f es (sorted_head R e.0 (keys_of es) so) n))
      ∙ found-there q es f (sorted_tail R e.0 (keys_of es) so) n) h

  -- What a test finds, where an entry passes: nothing above that.
  pub record FindsUpTo (q : K × X → Bool) (es : List (K × X)) (k : K) : Type 0 where
    pub at : K × X
    pub is : find q es ≡ Some at
    pub up_to : is_gt (R at.0 k) ≡ false

  -- where an entry passes, one is found that isn't above it
  pub finds : ((x y : K) → R x y ≡ Equal → x ≡ y) → (q : K × X → Bool) (es : List (K × X)) (k : K) (v : X) → IsStrictlySortedBy R (keys_of es) → lookup (is_at (R k)) es ≡ Some v → q (k, v) ≡ true → FindsUpTo q es k
  finds exact q [] k v so h p = absurd cc
  finds exact q (e ∷ es) k v so h p = elim (R k e.0) as (λ r. R k e.0 ≡ r → cond (is_eq r) (Some e.1) (lookup (is_at (R k)) es) ≡ Some v → FindsUpTo q (e ∷ es) k) [
    | Equal ↦ λ r l. (let value : e.1 ≡ v = cc in here (exact k e.0 r) value)
    | _ ↦ λ r l. later (q e) refl l (finds exact q es k v (sorted_tail R e.0 (keys_of es) so) l p)
  ] refl h
    where
      here : k ≡ e.0 → e.1 ≡ v → FindsUpTo q (e ∷ es) k
      here s t = record {
        at = e;
        is = ap (λ b. cond b (Some e) (find q es)) (sym (λ i. q (s i, sym t i)) ∙ p);
        up_to = ap (λ x. is_gt (R e.0 x)) s ∙ ap is_gt (tied_itself o e.0);
      }

      later : (b : Bool) → q e ≡ b → lookup (is_at (R k)) es ≡ Some v → FindsUpTo q es k → FindsUpTo q (e ∷ es) k
      later true t l rest = record {
        at = e;
        is = ap (λ b. cond b (Some e) (find q es)) t;
        up_to = ap is_gt (above_kept k e.0 es v (sorted_head R e.0 (keys_of es) so) l);
      }
      later false t l rest =
          record { at = rest.at; is = ap (λ b. cond b (Some e) (find q es)) t ∙ rest.is; up_to = rest.up_to }
