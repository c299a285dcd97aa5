-- A map of std whose order is a total order, seen as a finite map.
use Rattle.std.proofs.Common.{◌≡◌, Bool, true, false, cond, List, [], ◌∷◌, Some, subst, refl, sym, ap, ◌∙◌}
use Rattle.std.specs.Prelude.{T, ◌&&◌}
use Rattle.std.specs.List.{AllByRecursion}
use Rattle.std.specs.List.Sorted.{IsStrictlySortedBy}
use Rattle.std.proofs.lemmas.Map.Keys.{sorted_head, sorted_tail}
use Rattle.std.proofs.lemmas.Bool.{false≢true}
use Rattle.std.specs.declared.cmp.Ordering.{Ordering}
use Rattle.std.specs.declared.cmp.Ordering.TheVariants.{Less}
use Rattle.std.specs.Ordering.{is_lt, is_eq, eq_by_cmp}
use Rattle.std.specs.Cmp.{IsTotalOrder, eq_by_cmp_equiv}
use Rattle.std.specs.Map.{keys_of, lookup}
use Rattle.std.specs.BTreeMap.{is_at}
use Rattle.std.specs.FinMap.{FinMap, IsAntisymmetric, entries, get, insert, from_entries, from_sorted, find, is_sorted, get-from_entries, get-from_sorted, get-insert, get_tied, same_map, entries-from_sorted}
use Rattle.smq_kit.proofs.Comparisons.{is_equal}

join_tests : (l a b s : Bool) → l ≡ true → (a && s) ≡ true → (b && s) ≡ true → ((l && a) && (b && s)) ≡ true
join_tests l true b s p q r = rw (p, r) refl
join_tests l false b s p q r = absurd (false≢true q)

-- ---- a map whose `cmp` is the order

module _ {K : Type 0} {R kept : K → K → Ordering} (o : IsTotalOrder R) (exact : IsAntisymmetric R) (same : kept ≡ R) where
  tied : (k q : K) → is_at (kept k) q ≡ eq_by_cmp R q k
  tied k q = (λ i. is_eq (same i k q)) ∙ (eq_by_cmp_equiv o).symm k q

  module _ {X : Type 0} where
    find-lookup : (es : List (K × X)) (q : K) → find R q es ≡ lookup (is_at (R q)) es
    find-lookup [] q = refl
    find-lookup (e ∷ es) q = ap (cond (is_at (R q) e.0) (Some e.1)) (find-lookup es q)

    -- what the finite map has at a key is what is looked up in the entries
    pub get-kept : (es : List (K × X)) (q : K) → get (from_entries {R = R} es) q ≡ lookup (is_at (kept q)) es
    get-kept es q = get-from_entries o es q ∙ find-lookup es q ∙ (λ i. lookup (is_at (sym same i q)) es)

    -- where entries are as before but for one, which was put in, so are the finite maps
    pub put-kept : (es fs : List (K × X)) (k : K) (v : X)
        → ((q : K) → lookup (is_at (kept q)) fs ≡ cond (is_at (kept k) q) (Some v) (lookup (is_at (kept q)) es))
        → from_entries {R = R} fs ≡ insert (from_entries es) k v
    put-kept es fs k v h = same_map o exact _ _ (λ q.
        get-kept fs q ∙ h q ∙ (λ i. cond (tied k q i) (Some v) (sym (get-kept es q) i)) ∙ sym (get-insert o (from_entries es) k v q))

    at_tie : (m : FinMap R X) (k q : K) (v : X) (b : Bool) → eq_by_cmp R q k ≡ b → get m k ≡ Some v → cond b (Some v) (get m q) ≡ get m q
    at_tie m k q v true e h = sym (sym (get_tied o m q k (is_equal (R q k) e)) ∙ h)
    at_tie m k q v false e h = refl

    -- putting in an entry that is there already changes nothing
    pub insert-same : (m : FinMap R X) (k : K) (v : X) → get m k ≡ Some v → insert m k v ≡ m
    insert-same m k v h = same_map o exact _ _ (λ q. get-insert o m k v q ∙ at_tie m k q v (eq_by_cmp R q k) refl h)

    -- ---- entries in order

    sorted-more : (e : K × X) (es : List (K × X)) → AllByRecursion (λ y. R e.0 y ≡ Less) (keys_of es)
        → IsStrictlySortedBy R (keys_of es) → is_sorted R (e ∷ es) ≡ true
    sorted-more e [] a s = refl
    sorted-more e (f ∷ es) a s =
        join_tests _ _ _ _ (ap is_lt a.0) (sorted-more e es a.1 (sorted_tail R f.0 (keys_of es) s))
        (sorted-more f es (sorted_head R f.0 (keys_of es) s) (sorted_tail R f.0 (keys_of es) s))

    sorted-test : (es : List (K × X)) → IsStrictlySortedBy R (keys_of es) → T (is_sorted R es)
    sorted-test [] s = tt
    sorted-test (e ∷ es) s = subst T (sym (sorted-more e es (sorted_head R e.0 (keys_of es) s) (sorted_tail R e.0 (keys_of es) s))) tt

    -- entries that stand in order are those of the finite map that they make
    pub entries-kept : (es : List (K × X)) → IsStrictlySortedBy kept (keys_of es) → entries (from_entries {R = R} es) ≡ es
    entries-kept es s =
        let h : T (is_sorted R es) = sorted-test es (subst (λ (S : K → K → Ordering). IsStrictlySortedBy S (keys_of es)) same s) in
        ap entries (same_map o exact (from_entries es) (from_sorted es) (λ q. get-from_entries o es q
        ∙ sym (get-from_sorted R es q h))) ∙ entries-from_sorted R es h
