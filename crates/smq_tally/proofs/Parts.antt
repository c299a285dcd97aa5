-- What is shown of a finite map: the entries that pass a test, each as something else.
use Rattle.std.proofs.Common.{◌≡◌, ℕ, Bool, true, false, cond, List, [], ◌∷◌, Some, subst, refl, sym, ap, ◌∙◌, arith}
use Rattle.std.specs.Prelude.{T, ◌==◌, ◌↔◌, Contains, map, filter}
use Rattle.std.specs.List.{AllByRecursion}
use Rattle.std.specs.List.Sorted.{IsStrictlySortedBy}
use Rattle.std.specs.declared.cmp.Ordering.{Ordering}
use Rattle.std.specs.declared.cmp.Ordering.TheVariants.{Less, Equal}
use Rattle.std.specs.Ordering.{eq_by_cmp, nat_cmp, ordering_then}
use Rattle.std.specs.Cmp.{IsTotalOrder, nat_cmp_is}
use Rattle.std.specs.FinMap.{FinMap, IsAntisymmetric, entries, entries_sorted, find, get, get-entries, is_sorted}
use Rattle.std.specs.FinMap.Entries.{below_all}
use Rattle.std.proofs.lemmas.Bool.{eqb-true}
use Rattle.std.proofs.lemmas.List.Elements.{All-from_recursion, All-contains, Contains-append_right}
use Rattle.std.proofs.lemmas.Map.Views.{tells_apart}
use Rattle.smq_kit.proofs.Comparisons.{is_less, first_test, second_test}
use Rattle.smq_kit.proofs.MapLemmas.{get-entry}

-- of two with one number what comes next decides
pub then_next : (a b c : ℕ) (o : Ordering) → (a == c) ≡ true → (b == c) ≡ true → ordering_then (nat_cmp a b) o ≡ Less → o ≡ Less
then_next a b c o h k less =
    let one : a ≡ c = eqb-true _ _ h in
    let two : b ≡ c = eqb-true _ _ k in
    let tied : nat_cmp a b ≡ Equal = rw (one, two) (sym (nat_cmp_is c c Equal refl)) in
    rw tied at less

module _ {K X B : Type 0} (R : K → K → Ordering) (p : K × X → Bool) (f : K × X → B) where
  -- they stand in any order that agrees on them with that of the keys
  module _ (S : B → B → Ordering) (agrees : (d e : K × X) → p d ≡ true → p e ≡ true → R d.0 e.0 ≡ Less → S (f d) (f e) ≡ Less) where
    above : (d : K × X) (es : List (K × X)) → p d ≡ true → T (below_all R d.0 es)
        → AllByRecursion (λ y. S (f d) y ≡ Less) (map f (filter p es))
    above d [] h a = tt
    above d (e ∷ es) h a =
        elim (p e) as (λ b. p e ≡ b → AllByRecursion (λ y. S (f d) y ≡ Less) (map f (cond b (e ∷ filter p es) (filter p es)))) [
          | true ↦ λ k. (agrees d e h k (is_less _ (first_test _ _ a)), above d es h (second_test _ _ a))
          | false ↦ λ k. above d es h (second_test _ _ a)
        ] refl

    in-order : (es : List (K × X)) → T (is_sorted R es) → IsStrictlySortedBy S (map f (filter p es))
    unfolding IsStrictlySortedBy
    in-order [] h = tt
    in-order (e ∷ es) h =
        elim (p e) as (λ b. p e ≡ b → IsStrictlySortedBy S (map f (cond b (e ∷ filter p es) (filter p es)))) [
          | true ↦ λ k. (above e es k (first_test _ _ h), in-order es (second_test _ _ h))
          | false ↦ λ k. in-order es (second_test _ _ h)
        ] refl

    pub part-sorted : (m : FinMap R X) → IsStrictlySortedBy S (map f (filter p (entries m)))
    part-sorted m = in-order (entries m) (entries_sorted m)

  -- where each is told by what it is shown as, an entry that passes is shown exactly where the map has it
  module _ (o : IsTotalOrder R) (exact : IsAntisymmetric R) (told : B → K × X) (again : (e : K × X) → p e ≡ true → told (f e) ≡ e) where
    stand : (m : FinMap R X) (es : List (K × X)) → AllByRecursion (λ e. get m e.0 ≡ Some e.1) es
        → AllByRecursion (λ y. get m (told y).0 ≡ Some (told y).1) (map f (filter p es))
    stand m [] a = tt
    stand m (e ∷ es) a =
        elim (p e) as (λ b. p e ≡ b
        → AllByRecursion (λ y. get m (told y).0 ≡ Some (told y).1) (map f (cond b (e ∷ filter p es) (filter p es)))) [
          | true ↦ λ h. (subst (λ (d : K × X). get m d.0 ≡ Some d.1) (sym (again e h)) a.0, stand m es a.1)
          | false ↦ λ h. stand m es a.1
        ] refl

    found : (k : K) (v : X) (es : List (K × X)) → p (k, v) ≡ true → find R k es ≡ Some v → Contains (map f (filter p es)) (f (k, v))
    found k v [] h has = absurd cc
    found k v (e ∷ es) h has =
        elim (eq_by_cmp R k e.0) as (λ b. eq_by_cmp R k e.0 ≡ b → cond b (Some e.1) (find R k es) ≡ Some v
        → Contains (map f (filter p (e ∷ es))) (f (k, v))) [
          | true ↦ λ same first.
              let key : k ≡ e.0 = tells_apart exact _ _ same in
              let value : v ≡ e.1 = cc in
              let one : ◌≡◌ {A = K × X} (k, v) e = λ i. (key i, value i) in
              subst (λ (b : Bool). Contains (map f (cond b (e ∷ filter p es) (filter p es))) (f (k, v))) (sym (ap p (sym one) ∙ h))
              (0, omega arith, ap f (sym one))
          | false ↦ λ same later. elim (p e) as (λ b. Contains (map f (cond b (e ∷ filter p es) (filter p es))) (f (k, v))) [
            | true ↦ Contains-append_right (f e ∷ []) (map f (filter p es)) (f (k, v)) (found k v es h later)
            | false ↦ found k v es h later
          ]
        ] refl has

    pub part-iff : (m : FinMap R X) (k : K) (v : X) → p (k, v) ≡ true
        → Contains (map f (filter p (entries m))) (f (k, v)) ↔ (get m k ≡ Some v)
    part-iff m k v h = (
      λ c. subst (λ (d : K × X). get m d.0 ≡ Some d.1) (again (k, v) h)
          (All-contains (λ y. get m (told y).0 ≡ Some (told y).1) (map f (filter p (entries m))) (f (k, v))
          (All-from_recursion _ _ (stand m (entries m) (get-entry o exact m))) c),
      λ has. found k v (entries m) h (sym (get-entries m k) ∙ has),
    )
