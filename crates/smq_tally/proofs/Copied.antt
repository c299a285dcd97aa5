-- A map that gets entries by key, one after another.
use Rattle.std.proofs.Common.{◌≡◌, List, [], ◌∷◌, ◌++◌, refl, sym, ap, ◌∙◌, append_assoc, subst}
use Rattle.std.specs.BTreeMap.{insert_entry}
use Rattle.std.specs.Cmp.{IsTotalOrder}
use Rattle.std.specs.List.{AllByRecursion}
use Rattle.std.specs.List.Sorted.{IsStrictlySortedBy}
use Rattle.std.specs.Map.{keys_of}
use Rattle.std.specs.Ordering.{ordering_reverse}
use Rattle.std.specs.declared.cmp.Ordering.{Ordering}
use Rattle.std.specs.declared.cmp.Ordering.TheVariants.{Less, Greater}

module _ {K V : Type 0} where
  -- what holds of all keys holds of that of an entry among them
  at_key : (P : K → Type 0) (es : List (K × V)) (k : K) (v : V) (left : List (K × V)) → AllByRecursion P (keys_of (es ++ (k, v) ∷ left)) → P k
  at_key P [] k v left h = h.0
  at_key P (e ∷ es) k v left h = at_key P es k v left h.1

  -- an entry above all others goes to their end
  insert_entry-last : {R : K → K → Ordering} → IsTotalOrder R → (es : List (K × V)) (k : K) (v : V) (left : List (K × V)) → IsStrictlySortedBy R (keys_of (es ++ (k, v) ∷ left))
      → insert_entry R es k v ≡ es ++ (k, v) ∷ []
  unfolding IsStrictlySortedBy
  insert_entry-last o [] k v left s = refl
  insert_entry-last {R} o (e ∷ es) k v left s =
      let below : R e.0 k ≡ Less = at_key (λ x. R e.0 x ≡ Less) es k v left s.0 in
      let above : R k e.0 ≡ Greater = o.antisymm k e.0 ∙ ap ordering_reverse below in
      rw above (ap (λ (fs : List (K × V)). e ∷ fs) (insert_entry-last o es k v left s.1))

  -- one entry more of those that come by key
  pub comes_next : {R : K → K → Ordering} → IsTotalOrder R → (all es new left left' : List (K × V)) (k : K) (v : V) → IsStrictlySortedBy R (keys_of all)
      → es ++ left ≡ all → left ≡ (k, v) ∷ left' → new ≡ insert_entry R es k v → new ++ left' ≡ all
  comes_next {R} o all es new left left' k v s so_far next is =
      let split : es ++ (k, v) ∷ left' ≡ all = ap (λ (fs : List (K × V)). es ++ fs) (sym next) ∙ so_far in
      ap (λ (fs : List (K × V)). fs ++ left')
      (is ∙ insert_entry-last o es k v left' (subst (λ (fs : List (K × V)). IsStrictlySortedBy R (keys_of fs)) (sym split) s))
      ∙ append_assoc es ((k, v) ∷ []) left' ∙ split
