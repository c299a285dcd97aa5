-- Keys that were sorted, no two of which were one, are those of a map that has just them.
use Rattle.std.proofs.Common.{◌≡◌, Bool, cond, List, [], ◌∷◌, Option, Some, None, refl, sym, ap, ◌∙◌, subst, map}
use Rattle.std.specs.Prelude.{is_some, option_and_then}
use Rattle.std.specs.declared.cmp.Ordering.{Ordering}
use Rattle.std.specs.Ordering.{eq_by_cmp}
use Rattle.std.specs.Cmp.{IsTotalOrder, eq_by_cmp_equiv}
use Rattle.std.specs.FinMap.{FinMap, IsAntisymmetric, entries, find, from_entries, get, get-from_entries, keys, same_map}
use Rattle.std.specs.FinMap.Entries.{is_some-find}
use Rattle.std.specs.List.{IsDistinct, dedup, dedup_from, flat_map, list_any}
use Rattle.std.specs.List.Sorted.{IsPermutation, IsSorted, IsStrictlySortedBy}
use Rattle.std.specs.Map.{keys_of}
use Rattle.std.proofs.lemmas.List.Kept.{IsStrictlySortedBy-dedup}
use Rattle.std.proofs.lemmas.Map.Keys.{IsDistinct-head, IsDistinct-tail, IsDistinct-IsPermutation}
use Rattle.smq_kit.specs.Maps.{chosen, kept_of}
use Rattle.smq_kit.proofs.MapLemmas.{entries-chosen, get-chosen}
use Rattle.smq_kit.proofs.Ordered.{entries-kept}

-- a mark at each key
abbrev marked : {K : Type 0} → List K → List (K × Unit {0})
marked ks = map (λ k. (k, tt)) ks

keys-marked : {K : Type 0} (ks : List K) → keys_of (marked ks) ≡ ks
keys-marked [] = refl
keys-marked {K} (k ∷ ks) = ap (λ (xs : List K). k ∷ xs) (keys-marked ks)

-- a mark for each value
abbrev mark : {K X : Type 0} → K → X → Option (Unit {0})
mark k x = Some tt

keys-marked_entries : {K X : Type 0} (es : List (K × X)) → map (λ e. e.0) (flat_map (kept_of mark) es) ≡ map (λ e. e.0) es
keys-marked_entries [] = refl
keys-marked_entries {K} (e ∷ es) = ap (λ (xs : List K). e.0 ∷ xs) (keys-marked_entries es)

-- of marks, there is one or none
one_mark : (x y : Option (Unit {0})) → is_some x ≡ is_some y → x ≡ y
one_mark None None h = refl
one_mark (Some u) (Some v) h = refl
one_mark _ _ h = absurd cc

some-marked : {K X : Type 0} (k : K) (x : Option X) → is_some (option_and_then (mark k) x) ≡ is_some x
some-marked k None = refl
some-marked k (Some v) = refl

module _ {K : Type 0} {R : K → K → Ordering} (o : IsTotalOrder R) (exact : IsAntisymmetric R) where
  abbrev same : K → K → Bool
  same = eq_by_cmp R

  flips : (x y : K) → same x y ≡ same y x
  flips = (eq_by_cmp_equiv o).symm

  -- where no two are one, no key is left out
  kept_all : (k : K) (ks : List K) → IsDistinct same (k ∷ ks) → dedup_from same k ks ≡ k ∷ ks
  kept_all k [] d = refl
  kept_all k (x ∷ xs) d =
      ap (λ b. cond b (dedup_from same k xs) (k ∷ dedup_from same x xs)) (flips x k ∙ (IsDistinct-head same k (x ∷ xs) d).0)
      ∙ ap (λ (ys : List K). k ∷ ys) (kept_all x xs (IsDistinct-tail same k (x ∷ xs) d))

  distinct-dedup : (ks : List K) → IsDistinct same ks → dedup same ks ≡ ks
  distinct-dedup [] d = refl
  distinct-dedup (k ∷ ks) d = kept_all k ks d

  -- keys of which no two are one rise strictly once they are sorted
  pub sorted-strictly : (ps qs : List K) → IsDistinct same ps → IsPermutation ps qs → IsSorted R qs → IsStrictlySortedBy R qs
  sorted-strictly ps qs d moved sorted =
      subst (IsStrictlySortedBy R) (distinct-dedup qs (IsDistinct-IsPermutation same flips ps qs moved d))
      (IsStrictlySortedBy-dedup o (λ x y. refl) qs sorted)

  -- keys in order are those of a map that has them and no other
  pub sorted-keys : {X : Type 0} (m : FinMap R X) (qs : List K) → IsStrictlySortedBy R qs
      → ((q : K) → is_some (get m q) ≡ list_any (same q) qs) → qs ≡ keys m
  sorted-keys {X} m qs so has =
      let marks : List (K × Unit {0}) = marked qs in
      let one : from_entries {R = R} marks ≡ chosen mark m = same_map o exact _ _ (λ q.
      get-from_entries o marks q
      ∙ one_mark (find R q marks) (option_and_then (mark q) (get m q))
      (is_some-find R q marks ∙ ap (list_any (same q)) (keys-marked qs) ∙ sym (has q) ∙ sym (some-marked q (get m q)))
      ∙ sym (get-chosen o exact mark m q)) in
      sym (keys-marked qs)
      ∙ ap (λ (es : List (K × Unit {0})). map (λ e. e.0) es)
      (sym (entries-kept o exact refl marks (subst (IsStrictlySortedBy R) (sym (keys-marked qs)) so)) ∙ ap entries one ∙ entries-chosen o exact mark m)
      ∙ keys-marked_entries (entries m)
