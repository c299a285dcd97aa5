-- The first and the last of the entries in a range, in order.
use Rattle.std.proofs.Common.{◌≡◌, Bool, true, false, cond, List, [], ◌∷◌, ◌++◌, Option, Some, None, refl, sym, ap, ◌∙◌, subst, filter, length, ◌<◌, arith}
use Rattle.std.specs.Prelude.{IsSome}
use Rattle.std.specs.declared.cmp.Ordering.{Ordering}
use Rattle.std.specs.declared.cmp.Ordering.TheVariants.{Less, Greater}
use Rattle.std.specs.declared.ops.Bound.{Bound}
use Rattle.std.specs.declared.ops.Bound.TheVariants.{Included, Unbounded}
use Rattle.std.specs.Ordering.{is_gt, is_lt, ordering_reverse}
use Rattle.std.specs.Cmp.{IsTotalOrder}
use Rattle.std.specs.List.Sorted.{IsStrictlySortedBy}
use Rattle.std.specs.Map.{keys_of, lookup}
use Rattle.std.specs.Map.Iter.{TakesFirst, TakesLast}
use Rattle.std.specs.BTreeMap.{is_at}
use Rattle.std.specs.BTreeMap.Range.{range_contains, entries_between, IsInRange}
use Rattle.std.proofs.lemmas.Cmp.{tied_itself, tied_back}
use Rattle.std.proofs.lemmas.Bool.{false≢true}
use Rattle.std.proofs.lemmas.List.{append-nil, length-append}
use Rattle.std.proofs.lemmas.List.Kept.{IsStrictlySortedBy-filter}
use Rattle.std.proofs.lemmas.Map.Entries.{lookup-filter-keys}
use Rattle.std.proofs.lemmas.Map.Keys.{sorted_head, sorted_tail}
use Rattle.std.proofs.lemmas.Map.Lookups.{CmpEqualImpliesEq}
use Rattle.std.proofs.lemmas.Map.Views.{IsInRange-from_range_contains, range_contains-from_IsInRange}
use Rattle.smq_shelf.specs.Places.{content_of, with_place}
use Rattle.smq_shelf.specs.Nearest.{FindsFrom, FindsUpTo}
use Rattle.smq_shelf.proofs.Changes.{AllAbove, equal_from_is_eq}

-- the content of places of which the last is vacant, or not
pub content_of-last : {K V : Type 0} (es : List (K × Option V)) (k : K) (x : Option V) → content_of (es ++ (k, x) ∷ []) ≡ content_of es ++ with_place k x []
content_of-last [] k None = refl
content_of-last [] k (Some v) = refl
content_of-last {K} {V} (e ∷ es) k x = at e.1 (content_of-last es k x)
  where
    at : (y : Option V) → content_of (es ++ (k, x) ∷ []) ≡ content_of es ++ with_place k x []
        → with_place e.0 y (content_of (es ++ (k, x) ∷ [])) ≡ with_place e.0 y (content_of es) ++ with_place k x []
    at None h = h
    at (Some v) h = ap (λ (xs : List (K × V)). (e.0, v) ∷ xs) h

-- what is left where the last place is taken off, which has a value or is vacant
pub last-value : {K V : Type 0} (all left : List (K × Option V)) (k : K) (x : Option V) (v : V) → all ≡ left ++ (k, x) ∷ [] → x ≡ Some v
    → content_of all ≡ content_of left ++ (k, v) ∷ []
last-value all left k x v is has = ap content_of is ∙ content_of-last left k x ∙ (λ i. content_of left ++ with_place k (has i) [])

pub last-vacant : {K V : Type 0} (all left : List (K × Option V)) (k : K) (x : Option V) → all ≡ left ++ (k, x) ∷ [] → x ≡ None
    → content_of all ≡ content_of left
last-vacant all left k x is has =
    ap content_of is ∙ content_of-last left k x ∙ (λ i. content_of left ++ with_place k (has i) []) ∙ append-nil (content_of left)

pub one-less : {X : Type 0} (all left : List X) (x : X) → all ≡ left ++ x ∷ [] → length left < length all
one-less all left x is = let more = ap length is ∙ length-append left (x ∷ []) in omega (arith, more)

keys-filter : {K X : Type 0} (p : K → Bool) (es : List (K × X)) → keys_of (filter (λ e. p e.0) es) ≡ filter p (keys_of es)
keys-filter p [] = refl
keys-filter {K} {X} p (e ∷ es) = at (p e.0) (keys-filter p es)
  where
    at : (b : Bool) → keys_of (filter (λ f. p f.0) es) ≡ filter p (keys_of es)
        → keys_of (cond b (e ∷ filter (λ f. p f.0) es) (filter (λ f. p f.0) es)) ≡ cond b (e.0 ∷ filter p (keys_of es)) (filter p (keys_of es))
    at true h = ap (λ (ks : List K). e.0 ∷ ks) h
    at false h = h

module _ {K : Type 0} {R : K → K → Ordering} (o : IsTotalOrder R) (exact : CmpEqualImpliesEq R) where
  turned : (x y : K) → R x y ≡ Less → R y x ≡ Greater
  turned x y l = o.antisymm y x ∙ ap ordering_reverse l

  -- ---- keys in order

  -- a key that stands among those above k is above k
  above_there : {X : Type 0} (k q : K) (es : List (K × X)) → AllAbove o k es → IsSome (lookup (is_at (R q)) es) → R k q ≡ Less
  above_there k q [] a s = absurd (false≢true s)
  above_there {X} k q (e ∷ es) a s = at (above_there k q es a.1) (is_at (R q) e.0) refl s
    where
      at : (IsSome (lookup (is_at (R q)) es) → R k q ≡ Less) → (b : Bool) → is_at (R q) e.0 ≡ b → IsSome (cond b (Some e.1) (lookup (is_at (R q)) es)) → R k q ≡ Less
      at ih true t h = ap (R k) (exact q e.0 (equal_from_is_eq o (R q e.0) t)) ∙ a.0
      at ih false t h = ih h

  first_found : {X : Type 0} (e : K × X) (es : List (K × X)) → lookup (is_at (R e.0)) (e ∷ es) ≡ Some e.1
  first_found e es = rw (tied_itself o e.0) refl

  first_least : {X : Type 0} (e : K × X) (es : List (K × X)) → IsStrictlySortedBy R (keys_of (e ∷ es)) → (q : K)
      → IsSome (lookup (is_at (R q)) (e ∷ es)) → is_gt (R e.0 q) ≡ false
  first_least {X} e es s q h = at (is_at (R q) e.0) refl h
    where
      at : (b : Bool) → is_at (R q) e.0 ≡ b → IsSome (cond b (Some e.1) (lookup (is_at (R q)) es)) → is_gt (R e.0 q) ≡ false
      at true t i = ap is_gt (tied_back o q e.0 (equal_from_is_eq o (R q e.0) t))
      at false t i = ap is_gt (above_there e.0 q es (sorted_head R e.0 (keys_of es) s) i)

  last_above : {X : Type 0} (k : K) (t : List (K × X)) (e : K × X) → AllAbove o k (t ++ e ∷ []) → R k e.0 ≡ Less
  last_above k [] e a = a.0
  last_above k (x ∷ t) e a = last_above k t e a.1

  last_found : {X : Type 0} (t : List (K × X)) (e : K × X) → IsStrictlySortedBy R (keys_of (t ++ e ∷ [])) → lookup (is_at (R e.0)) (t ++ e ∷ []) ≡ Some e.1
  last_found [] e s = rw (tied_itself o e.0) refl
  last_found (x ∷ t) e s =
      rw (turned x.0 e.0 (last_above x.0 t e (sorted_head R x.0 (keys_of (t ++ e ∷ [])) s)))
      (last_found t e (sorted_tail R x.0 (keys_of (t ++ e ∷ [])) s))

  last_greatest : {X : Type 0} (t : List (K × X)) (e : K × X) → IsStrictlySortedBy R (keys_of (t ++ e ∷ [])) → (q : K)
      → IsSome (lookup (is_at (R q)) (t ++ e ∷ [])) → is_lt (R e.0 q) ≡ false
  last_greatest {X} [] e s q h = at (is_at (R q) e.0) refl h
    where
      at : (b : Bool) → is_at (R q) e.0 ≡ b → IsSome (cond b (Some e.1) None) → is_lt (R e.0 q) ≡ false
      at true t i = ap is_lt (tied_back o q e.0 (equal_from_is_eq o (R q e.0) t))
      at false t i = absurd (false≢true i)
  last_greatest {X} (x ∷ t) e s q h =
      at (last_greatest t e (sorted_tail R x.0 (keys_of (t ++ e ∷ [])) s) q) (is_at (R q) x.0) refl h
    where
      at : (IsSome (lookup (is_at (R q)) (t ++ e ∷ [])) → is_lt (R e.0 q) ≡ false) → (b : Bool) → is_at (R q) x.0 ≡ b → IsSome (cond b (Some x.1) (lookup (is_at (R q)) (t ++ e ∷ []))) → is_lt (R e.0 q) ≡ false
      at ih true b i =
          ap is_lt (ap (R e.0) (exact q x.0 (equal_from_is_eq o (R q x.0) b))
          ∙ turned x.0 e.0 (last_above x.0 t e (sorted_head R x.0 (keys_of (t ++ e ∷ [])) s)))
      at ih false b i = ih i

  -- ---- those in a range

  module _ {X : Type 0} (lo hi : Bound K) (es : List (K × X)) (s : IsStrictlySortedBy R (keys_of es)) where
    in_range : (q : K) → IsInRange R lo hi q → lookup (is_at (R q)) (entries_between R lo hi es) ≡ lookup (is_at (R q)) es
    in_range q h =
        lookup-filter-keys (is_at (R q)) (range_contains R lo hi) true
        (λ k t. ap (range_contains R lo hi) (sym (exact q k (equal_from_is_eq o (R q k) t))) ∙ range_contains-from_IsInRange o lo hi q h) es

    found_there : (k : K) (v : X) (b : Bool) → range_contains R lo hi k ≡ b → cond b (lookup (is_at (R k)) es) None ≡ Some v
        → IsInRange R lo hi k × (lookup (is_at (R k)) es ≡ Some v)
    found_there k v true t h = (IsInRange-from_range_contains o lo hi k t, h)
    found_there k v false t h = cc

    there : (k : K) (v : X) → lookup (is_at (R k)) (entries_between R lo hi es) ≡ Some v → IsInRange R lo hi k × (lookup (is_at (R k)) es ≡ Some v)
    there k v h =
        found_there k v (range_contains R lo hi k) refl
        (sym (lookup-filter-keys (is_at (R k)) (range_contains R lo hi) (range_contains R lo hi k)
        (λ j t. ap (range_contains R lo hi) (sym (exact k j (equal_from_is_eq o (R k j) t)))) es) ∙ h)

    part_sorted : IsStrictlySortedBy R (keys_of (entries_between R lo hi es))
    part_sorted =
        subst (IsStrictlySortedBy R) (sym (keys-filter (range_contains R lo hi) es)) (IsStrictlySortedBy-filter R (range_contains R lo hi) (keys_of es) s)

    part_is : (part : List (K × X)) → entries_between R lo hi es ≡ part → IsStrictlySortedBy R (keys_of part)
    part_is part e = subst (λ (p : List (K × X)). IsStrictlySortedBy R (keys_of p)) e part_sorted

    some_in : (part : List (K × X)) → entries_between R lo hi es ≡ part → (q : K) → IsInRange R lo hi q → IsSome (lookup (is_at (R q)) es)
        → IsSome (lookup (is_at (R q)) part)
    some_in part e q h i = subst (λ (p : List (K × X)). IsSome (lookup (is_at (R q)) p)) e (subst IsSome (sym (in_range q h)) i)

    none_in : entries_between R lo hi es ≡ [] → (q : K) → IsInRange R lo hi q → lookup (is_at (R q)) es ≡ None
    none_in e q h = sym (in_range q h) ∙ ap (lookup (is_at (R q))) e

  -- what `next` gives of the entries from a key on
  pub finds-from : {A X : Type 0} (shows : A → K × X) (key : K) (es part t : List (K × X)) (r : Option A) → IsStrictlySortedBy R (keys_of es)
      → part ≡ entries_between R (Included key) Unbounded es → TakesFirst shows part r t
      → FindsFrom R key es (Rattle.std.specs.Option.option_map shows r)
  finds-from shows key es part t None s is takes = λ q h. none_in (Included key) Unbounded es s (sym is ∙ takes.0) q (h, tt)
  finds-from {A} {X} shows key es part t (Some x) s is takes =
      let same : entries_between R (Included key) Unbounded es ≡ shows x ∷ t = sym is ∙ takes in
      let found = there (Included key) Unbounded es s (shows x).0 (shows x).1 (ap (lookup (is_at (R (shows x).0))) same ∙ first_found (shows x) t) in
      record {
        above = found.0.0;
        there = found.1;
        least = λ q h i. first_least (shows x) t (part_is (Included key) Unbounded es s (shows x ∷ t) same) q
            (some_in (Included key) Unbounded es s (shows x ∷ t) same q (h, tt) i);
      }

  -- what `next_back` gives of the entries up to a key
  pub finds-up-to : {A X : Type 0} (shows : A → K × X) (key : K) (es part t : List (K × X)) (r : Option A) → IsStrictlySortedBy R (keys_of es)
      → part ≡ entries_between R Unbounded (Included key) es → TakesLast shows part r t
      → FindsUpTo R key es (Rattle.std.specs.Option.option_map shows r)
  finds-up-to shows key es part t None s is takes = λ q h. none_in Unbounded (Included key) es s (sym is ∙ takes.0) q (tt, h)
  finds-up-to {A} {X} shows key es part t (Some x) s is takes =
      let same : entries_between R Unbounded (Included key) es ≡ t ++ shows x ∷ [] = sym is ∙ takes in
      let ordered = part_is Unbounded (Included key) es s (t ++ shows x ∷ []) same in
      let found = there Unbounded (Included key) es s (shows x).0 (shows x).1 (ap (lookup (is_at (R (shows x).0))) same ∙ last_found t (shows x) ordered) in
      record {
        below = found.0.1;
        there = found.1;
        greatest = λ q h i. last_greatest t (shows x) ordered q (some_in Unbounded (Included key) es s (t ++ shows x ∷ []) same q (tt, h) i);
      }
