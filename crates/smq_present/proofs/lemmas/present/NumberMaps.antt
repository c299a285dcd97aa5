-- A map of std from numbers as a finite map.
use Rattle.std.proofs.Common.{◌≡◌, ℕ, Bool, true, false, cond, List, Some, None, refl, sym, ap, ◌∙◌}
use Rattle.std.specs.List.Sorted.{IsStrictlySortedBy}
use Rattle.std.specs.Ordering.{nat_cmp, eq_by_cmp, is_eq}
use Rattle.std.specs.Cmp.{nat_cmp_total, eq_by_cmp_equiv, tied_itself}
use Rattle.std.specs.Map.{keys_of, lookup}
use Rattle.std.specs.BTreeMap.{is_at}
use Rattle.std.specs.FinMap.{FinMap, entries, get, insert, remove, from_entries, get-insert, get-remove, get_tied, same_map, nat_cmp-IsAntisymmetric}
use Rattle.smq_kit.specs.Maps.{set_at}
use Rattle.smq_kit.proofs.Comparisons.{is_equal}
use Rattle.smq_kit.proofs.MapLemmas as maps
use Rattle.smq_kit.proofs.Ordered as ordered

tied : (k q : ℕ) → is_at (nat_cmp k) q ≡ eq_by_cmp nat_cmp q k
tied k q = (eq_by_cmp_equiv nat_cmp_total).symm k q

module _ {X : Type 0} where
  -- the finite map of entries
  abbrev pub seen : List (ℕ × X) → FinMap nat_cmp X
  seen es = from_entries es

  pub get-seen : (es : List (ℕ × X)) (q : ℕ) → get (seen es) q ≡ lookup (is_at (nat_cmp q)) es
  get-seen es q = ordered.get-kept nat_cmp_total nat_cmp-IsAntisymmetric refl es q

  -- one entry is put in
  pub insert-seen : (es fs : List (ℕ × X)) (k : ℕ) (v : X)
      → ((q : ℕ) → lookup (is_at (nat_cmp q)) fs ≡ cond (is_at (nat_cmp k) q) (Some v) (lookup (is_at (nat_cmp q)) es))
      → seen fs ≡ insert (seen es) k v
  insert-seen es fs k v h = ordered.put-kept nat_cmp_total nat_cmp-IsAntisymmetric refl es fs k v h

  -- what is there already
  pub insert-same : (m : FinMap nat_cmp X) (k : ℕ) (v : X) → get m k ≡ Some v → insert m k v ≡ m
  insert-same m k v h = ordered.insert-same nat_cmp_total nat_cmp-IsAntisymmetric refl m k v h

  -- entries in order
  pub entries-seen : (es : List (ℕ × X)) → IsStrictlySortedBy nat_cmp (keys_of es) → entries (seen es) ≡ es
  entries-seen es s = ordered.entries-kept nat_cmp_total nat_cmp-IsAntisymmetric refl es s

  -- one entry is taken out
  pub remove-seen : (es fs : List (ℕ × X)) (k : ℕ)
      → ((q : ℕ) → lookup (is_at (nat_cmp q)) fs ≡ cond (is_at (nat_cmp k) q) None (lookup (is_at (nat_cmp q)) es))
      → seen fs ≡ remove (seen es) k
  remove-seen es fs k h = same_map nat_cmp_total nat_cmp-IsAntisymmetric _ _ (λ q.
      get-seen fs q ∙ h q ∙ (λ i. cond (tied k q i) None (sym (get-seen es q) i)) ∙ sym (get-remove nat_cmp_total (seen es) k q))

  -- what isn't there
  pub remove-none : (m : FinMap nat_cmp X) (k : ℕ) → get m k ≡ None → remove m k ≡ m
  remove-none m k h = same_map nat_cmp_total nat_cmp-IsAntisymmetric _ _ (λ q. get-remove nat_cmp_total m k q
      ∙ at_none m k q (eq_by_cmp nat_cmp q k) refl h)
    where
      at_none : (m : FinMap nat_cmp X) (k q : ℕ) (b : Bool) → eq_by_cmp nat_cmp q k ≡ b → get m k ≡ None → cond b None (get m q) ≡ get m q
      at_none m k q true e h = sym (sym (get_tied nat_cmp_total m q k (is_equal (nat_cmp q k) e)) ∙ h)
      at_none m k q false e h = refl

  module _ (m : FinMap nat_cmp X) (k : ℕ) (v : X) where
    -- what is put in is there
    pub set-there : get (insert m k v) k ≡ Some v
    set-there = get-insert nat_cmp_total m k v k ∙ ap (λ b. cond b (Some v) (get m k)) (ap is_eq (tied_itself nat_cmp_total k))

    -- and where what was there before is brought back, all is as it was
    pub set-back : set_at (insert m k v) k (get m k) ≡ m
    set-back = same_map nat_cmp_total nat_cmp-IsAntisymmetric _ _ (λ q.
        maps.get-set_at nat_cmp_total nat_cmp-IsAntisymmetric (insert m k v) k (get m k) q
        ∙ ap (cond (eq_by_cmp nat_cmp q k) (get m k)) (get-insert nat_cmp_total m k v q)
        ∙ by q (eq_by_cmp nat_cmp q k) refl)
      where
        by : (q : ℕ) (b : Bool) → eq_by_cmp nat_cmp q k ≡ b → cond b (get m k) (cond b (Some v) (get m q)) ≡ get m q
        by q true t = ap (get m) (sym (maps.same_key nat_cmp_total nat_cmp-IsAntisymmetric q k t))
        by q false t = refl
