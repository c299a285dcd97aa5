-- What a change does to entries in order, and what takes it back.
use Rattle.std.proofs.Common.{◌≡◌, Bool, true, false, List, [], ◌∷◌, ◌++◌, Option, Some, None, refl, sym, ap, ◌∙◌, cond, reverse, ◌||◌, ◌&&◌}
use Rattle.std.specs.Prelude.{IsSome, is_some}
use Rattle.std.proofs.Common.{Ordering}
use Rattle.std.specs.declared.cmp.Ordering.TheVariants.{Less, Equal, Greater}
use Rattle.std.specs.Ordering.{is_eq, match_ordering}
use Rattle.std.specs.Cmp.{IsTotalOrder}
use Rattle.std.specs.List.{AllByRecursion, list_any}
use Rattle.std.specs.List.Sorted.{IsStrictlySortedBy}
use Rattle.std.specs.Map.{keys_of, lookup, remove_entry}
use Rattle.std.specs.BTreeMap.{is_at, insert_entry}
use Rattle.std.proofs.lemmas.Cmp.{tied_itself, alike_right}
use Rattle.std.proofs.lemmas.Map.Keys.{sorted_head, sorted_tail}
use Rattle.std.proofs.lemmas.Map.Lookups.{CmpEqualImpliesEq}
use Rattle.smq_shelf.specs.Places.{content_of, with_place}
use Rattle.smq_shelf.specs.within.Undoing.{reverted, undone, pasts, CanUndo, IsKept, IsMade, Logged, flatten, has_value, cleared, cleared_after, is_vacant}
use Rattle.std.proofs.lemmas.List.{reverse-append}
use Rattle.std.proofs.lemmas.Bool.{false≢true}
use Rattle.std.proofs.lemmas.List.Sorted.{list_any-IsPermutation, IsPermutation-reverse}
use Rattle.std.proofs.lemmas.List.Folds.{list_any-append}

module _ {K : Type 0} {R : K → K → Ordering} (o : IsTotalOrder R) where
  -- each key of es is above k
  abbrev pub AllAbove : {X : Type 0} → K → List (K × X) → Type 0
  AllAbove k es = AllByRecursion (λ y. R k y ≡ Less) (keys_of es)

  pub insert_entry-above : {X : Type 0} (k : K) (v : X) (es : List (K × X)) → AllAbove k es → insert_entry R es k v ≡ (k, v) ∷ es
  insert_entry-above k v [] h = refl
  insert_entry-above k v (e ∷ es) h = rw (h.0) refl

  pub remove_entry-above : {X : Type 0} (k : K) (es : List (K × X)) → AllAbove k es → remove_entry (is_at (R k)) es ≡ es
  remove_entry-above k [] h = refl
  remove_entry-above k (e ∷ es) h = rw (h.0) (ap (λ t. e ∷ t) (remove_entry-above k es h.1))

  pub lookup-above : {X : Type 0} (k : K) (es : List (K × X)) → AllAbove k es → lookup (is_at (R k)) es ≡ None
  lookup-above k [] h = refl
  lookup-above k (e ∷ es) h = rw (h.0) (lookup-above k es h.1)

  -- a key below or at a key that is below all
  pub above_less : {X : Type 0} (k j : K) (es : List (K × X)) → R k j ≡ Less → AllAbove j es → AllAbove k es
  above_less k j [] l h = tt
  above_less k j (e ∷ es) l h = (o.trans k j e.0 l h.0, above_less k j es l h.1)

  pub above_equal : {X : Type 0} (k j : K) (es : List (K × X)) → R k j ≡ Equal → AllAbove j es → AllAbove k es
  above_equal k j [] l h = tt
  above_equal k j (e ∷ es) l h = (o.congr k j e.0 l ∙ h.0, above_equal k j es l h.1)

  above_content_at : {V : Type 0} (k j : K) (x : Option V) (cs : List (K × V)) → R k j ≡ Less → AllAbove k cs → AllAbove k (with_place j x cs)
  above_content_at k j None cs l h = h
  above_content_at k j (Some v) cs l h = (l, h)

  pub above_content : {V : Type 0} (k : K) (es : List (K × Option V)) → AllAbove k es → AllAbove k (content_of es)
  above_content k [] h = tt
  above_content k (e ∷ es) h = above_content_at k e.0 e.1 (content_of es) h.0 (above_content k es h.1)

  sorted_cons : {X : Type 0} (k : K) (v : X) (es : List (K × X)) → AllAbove k es → IsStrictlySortedBy R (keys_of es) → IsStrictlySortedBy R (keys_of ((k, v) ∷ es))
  unfolding IsStrictlySortedBy
  sorted_cons k v es a s = (a, s)

  content_ordered_at : {V : Type 0} (k : K) (x : Option V) (cs : List (K × V)) → AllAbove k cs → IsStrictlySortedBy R (keys_of cs) → IsStrictlySortedBy R (keys_of (with_place k x cs))
  content_ordered_at k None cs a s = s
  content_ordered_at k (Some v) cs a s = sorted_cons k v cs a s

  -- the content of places in order is in order
  pub content_ordered : {V : Type 0} (es : List (K × Option V)) → IsStrictlySortedBy R (keys_of es) → IsStrictlySortedBy R (keys_of (content_of es))
  content_ordered [] s = s
  content_ordered (e ∷ es) s =
      content_ordered_at e.0 e.1 (content_of es) (above_content e.0 es (sorted_head R e.0 (keys_of es) s)) (content_ordered es (sorted_tail R e.0 (keys_of es) s))

  -- what is above the first key of entries in order, where k is below it or at it
  above_rest : {V : Type 0} (k : K) (e : K × Option V) (es : List (K × Option V)) → IsStrictlySortedBy R (keys_of (e ∷ es)) → R k e.0 ≡ Less → AllAbove k (content_of es)
  above_rest k e es s h = above_content k es (above_less k e.0 es h (sorted_head R e.0 (keys_of es) s))

  above_rest_at : {V : Type 0} (k : K) (e : K × Option V) (es : List (K × Option V)) → IsStrictlySortedBy R (keys_of (e ∷ es)) → R k e.0 ≡ Equal → AllAbove k (content_of es)
  above_rest_at k e es s h = above_content k es (above_equal k e.0 es h (sorted_head R e.0 (keys_of es) s))

  -- ---- a change of the content

  insert_some_at : {V : Type 0} → CmpEqualImpliesEq R → (k : K) (v : V) (j : K) (x : Option V) (es ins : List (K × Option V)) → IsStrictlySortedBy R (keys_of ((j, x) ∷ es))
      → content_of ins ≡ insert_entry R (content_of es) k v → (r : Ordering) → R k j ≡ r
      → content_of (match_ordering r ((k, Some v) ∷ (j, x) ∷ es) ((j, Some v) ∷ es) ((j, x) ∷ ins)) ≡ insert_entry R (with_place j x (content_of es)) k v
  insert_some_at exact k v j None es ins s ih Less h = sym (insert_entry-above k v (content_of es) (above_rest k (j, None) es s h))
  insert_some_at exact k v j None es ins s ih Equal h =
      rw (← exact k j h) (sym (insert_entry-above k v (content_of es) (above_rest_at k (j, None) es s h)))
  insert_some_at exact k v j None es ins s ih Greater h = ih
  insert_some_at exact k v j (Some u) es ins s ih Less h = rw h refl
  insert_some_at exact k v j (Some u) es ins s ih Equal h = rw h refl
  insert_some_at exact k v j (Some u) es ins s ih Greater h = rw h (ap (λ t. (j, u) ∷ t) ih)

  -- a key that is put in, or is there, has the value
  pub content_of-insert_some : {V : Type 0} → CmpEqualImpliesEq R → (k : K) (v : V) (es : List (K × Option V)) → IsStrictlySortedBy R (keys_of es)
      → content_of (insert_entry R es k (Some v)) ≡ insert_entry R (content_of es) k v
  content_of-insert_some exact k v [] s = refl
  content_of-insert_some exact k v (e ∷ es) s =
      insert_some_at exact k v e.0 e.1 es (insert_entry R es k (Some v)) s (content_of-insert_some exact k v es (sorted_tail R e.0 (keys_of es) s)) (R k e.0) refl

  insert_none_at : {V : Type 0} → (k j : K) (x : Option V) (es ins : List (K × Option V)) → IsStrictlySortedBy R (keys_of ((j, x) ∷ es))
      → content_of ins ≡ remove_entry (is_at (R k)) (content_of es) → (r : Ordering) → R k j ≡ r
      → content_of (match_ordering r ((k, None) ∷ (j, x) ∷ es) ((j, None) ∷ es) ((j, x) ∷ ins)) ≡ remove_entry (is_at (R k)) (with_place j x (content_of es))
  insert_none_at k j None es ins s ih Less h = sym (remove_entry-above k (content_of es) (above_rest k (j, None) es s h))
  insert_none_at k j None es ins s ih Equal h = sym (remove_entry-above k (content_of es) (above_rest_at k (j, None) es s h))
  insert_none_at k j None es ins s ih Greater h = ih
  insert_none_at k j (Some u) es ins s ih Less h = rw h (ap (λ t. (j, u) ∷ t) (sym (remove_entry-above k (content_of es) (above_rest k (j, Some u) es s h))))
  insert_none_at k j (Some u) es ins s ih Equal h = rw h refl
  insert_none_at k j (Some u) es ins s ih Greater h = rw h (ap (λ t. (j, u) ∷ t) ih)

  -- a key that is made vacant is not in the content
  pub content_of-insert_none : {V : Type 0} → (k : K) (es : List (K × Option V)) → IsStrictlySortedBy R (keys_of es)
      → content_of (insert_entry R es k None) ≡ remove_entry (is_at (R k)) (content_of es)
  content_of-insert_none k [] s = refl
  content_of-insert_none k (e ∷ es) s =
      insert_none_at k e.0 e.1 es (insert_entry R es k None) s (content_of-insert_none k es (sorted_tail R e.0 (keys_of es) s)) (R k e.0) refl

  lookup_at : {V : Type 0} → (k j : K) (x : Option V) (es : List (K × Option V)) → IsStrictlySortedBy R (keys_of ((j, x) ∷ es))
      → lookup (is_at (R k)) (content_of es) ≡ flatten (lookup (is_at (R k)) es) → (r : Ordering) → R k j ≡ r
      → lookup (is_at (R k)) (with_place j x (content_of es)) ≡ flatten (cond (is_eq r) (Some x) (lookup (is_at (R k)) es))
  lookup_at k j None es s ih Less h = ih
  lookup_at k j None es s ih Equal h = lookup-above k (content_of es) (above_rest_at k (j, None) es s h)
  lookup_at k j None es s ih Greater h = ih
  lookup_at k j (Some u) es s ih Less h = rw h ih
  lookup_at k j (Some u) es s ih Equal h = rw h refl
  lookup_at k j (Some u) es s ih Greater h = rw h ih

  -- what the content has at a key
  pub lookup-content_of : {V : Type 0} → (k : K) (es : List (K × Option V)) → IsStrictlySortedBy R (keys_of es)
      → lookup (is_at (R k)) (content_of es) ≡ flatten (lookup (is_at (R k)) es)
  lookup-content_of k [] s = refl
  lookup-content_of k (e ∷ es) s = lookup_at k e.0 e.1 es s (lookup-content_of k es (sorted_tail R e.0 (keys_of es) s)) (R k e.0) refl

  -- ---- what takes a change back

  reverted_past : {V : Type 0} (k : K) (c : Option (Option V)) (e : K × Option V) (es : List (K × Option V)) → R k e.0 ≡ Greater
      → reverted R k c (e ∷ es) ≡ e ∷ reverted R k c es
  reverted_past k None e es h = rw h refl
  reverted_past k (Some w) e es h = rw h refl

  reverted_at : {V : Type 0} (k : K) (w : Option V) (e : K × Option V) (es : List (K × Option V)) → IsStrictlySortedBy R (keys_of (e ∷ es))
      → reverted R k (lookup (is_at (R k)) es) (insert_entry R es k w) ≡ es → (r : Ordering) → R k e.0 ≡ r
      → reverted R k (cond (is_eq r) (Some e.1) (lookup (is_at (R k)) es)) (match_ordering r ((k, w) ∷ e ∷ es) ((e.0, w) ∷ es) (e ∷ insert_entry R es k w)) ≡ e ∷ es
  reverted_at k w e es s ih Less h =
      rw (lookup-above k es (above_less k e.0 es h (sorted_head R e.0 (keys_of es) s))) (rw (tied_itself o k) refl)
  reverted_at k w e es s ih Equal h = rw h refl
  reverted_at k w e es s ih Greater h = reverted_past k (lookup (is_at (R k)) es) e (insert_entry R es k w) h ∙ ap (λ t. e ∷ t) ih

  -- putting back what was there before an insert
  pub reverted-insert_entry : {V : Type 0} (k : K) (w : Option V) (es : List (K × Option V)) → IsStrictlySortedBy R (keys_of es)
      → reverted R k (lookup (is_at (R k)) es) (insert_entry R es k w) ≡ es
  reverted-insert_entry k w [] s = rw (tied_itself o k) refl
  reverted-insert_entry k w (e ∷ es) s =
      reverted_at k w e es s (reverted-insert_entry k w es (sorted_tail R e.0 (keys_of es) s)) (R k e.0) refl

  inserted_at : {X : Type 0} (k : K) (w : X) (e : K × X) (es ins : List (K × X)) → lookup (is_at (R k)) ins ≡ Some w → (r : Ordering) → R k e.0 ≡ r
      → lookup (is_at (R k)) (match_ordering r ((k, w) ∷ e ∷ es) ((e.0, w) ∷ es) (e ∷ ins)) ≡ Some w
  inserted_at k w e es ins ih Less h = rw (tied_itself o k) refl
  inserted_at k w e es ins ih Equal h = rw h refl
  inserted_at k w e es ins ih Greater h = rw h ih

  pub lookup-insert_entry : {X : Type 0} (k : K) (w : X) (es : List (K × X)) → lookup (is_at (R k)) (insert_entry R es k w) ≡ Some w
  lookup-insert_entry k w [] = rw (tied_itself o k) refl
  lookup-insert_entry k w (e ∷ es) = inserted_at k w e es (insert_entry R es k w) (lookup-insert_entry k w es) (R k e.0) refl

  -- `next` and `after` are the entries and the log once k was given the place w
  pub record Puts {V : Type 0} (k : K) (w : Option V) (log : List (Logged K V)) (es : List (K × Option V)) (after : List (Logged K V)) (next : List (K × Option V)) : Type 0 where
    pub entries : next ≡ insert_entry R es k w
    pub ordered : IsStrictlySortedBy R (keys_of next)
    pub logged : after ≡ log ++ (k, lookup (is_at (R k)) es) ∷ []
    pub filled : has_value (lookup (is_at (R k)) es) ≡ false → is_vacant (Some w) ≡ false
    pub kept : IsKept R log es

  pub IsKept-put : {V : Type 0} {k : K} {w : Option V} {log after : List (Logged K V)} {es next : List (K × Option V)} → Puts k w log es after next → IsKept R after next
  IsKept-put {k = k} {w = w} {log = log} {es = es} p = record {
    ordered = p.ordered;
    undoable = rw (p.logged, p.entries) (rw (reverse-append log ((k, lookup (is_at (R k)) es) ∷ [])) (
      record { there = rw (lookup-insert_entry k w es) refl; filled = λ n. rw (lookup-insert_entry k w es) (p.filled n) },
      rw (reverted-insert_entry k w es p.kept.ordered) p.kept.undoable,
    ));
  }

  pub undone-put : {V : Type 0} {k : K} {w : Option V} {log after : List (Logged K V)} {es next : List (K × Option V)} → Puts k w log es after next
      → undone R (reverse after) next ≡ undone R (reverse log) es
  undone-put {k = k} {w = w} {log = log} {es = es} p =
      rw (p.logged, p.entries) (rw (reverse-append log ((k, lookup (is_at (R k)) es) ∷ [])) (ap (undone R (reverse log)) (reverted-insert_entry k w es p.kept.ordered)))

  pub pasts-put : {V : Type 0} {k : K} {w : Option V} {log after : List (Logged K V)} {es next : List (K × Option V)} → Puts k w log es after next
      → pasts R (reverse after) next ≡ es ∷ pasts R (reverse log) es
  pasts-put {V = V} {k = k} {w = w} {log = log} {es = es} p =
      rw (p.logged, p.entries) (rw (reverse-append log ((k, lookup (is_at (R k)) es) ∷ [])) (ap (λ (xs : List (K × Option V)). xs ∷ pasts R (reverse log) xs) (reverted-insert_entry k w es p.kept.ordered)))

  pub content_of-put_some : {V : Type 0} → CmpEqualImpliesEq R → {k : K} {v : V} {log after : List (Logged K V)} {es next : List (K × Option V)} → Puts k (Some v) log es after next
      → content_of next ≡ insert_entry R (content_of es) k v
  content_of-put_some exact {k = k} {v = v} {es = es} p = ap content_of p.entries ∙ content_of-insert_some exact k v es p.kept.ordered

  pub content_of-put_none : {V : Type 0} → {k : K} {log after : List (Logged K V)} {es next : List (K × Option V)} → Puts k None log es after next
      → content_of next ≡ remove_entry (is_at (R k)) (content_of es)
  content_of-put_none {k = k} {es = es} p = ap content_of p.entries ∙ content_of-insert_none k es p.kept.ordered

  remove_none_at : {X : Type 0} (t : K → Bool) (e : K × X) (es : List (K × X)) → (lookup t es ≡ None → remove_entry t es ≡ es) → (b : Bool) → cond b (Some e.1) (lookup t es) ≡ None
      → cond b es (e ∷ remove_entry t es) ≡ e ∷ es
  remove_none_at t e es ih true h = cc
  remove_none_at t e es ih false h = ap (λ r. e ∷ r) (ih h)

  pub remove_entry-none : {X : Type 0} (t : K → Bool) (es : List (K × X)) → lookup t es ≡ None → remove_entry t es ≡ es
  remove_entry-none t [] h = refl
  remove_entry-none t (e ∷ es) h = remove_none_at t e es (remove_entry-none t es) (t e.0) h

  none_from_is_some : {X : Type 0} (x : Option X) → is_some x ≡ false → x ≡ None
  none_from_is_some None h = refl
  none_from_is_some (Some v) h = absurd (false≢true (sym h))

  -- a key without a value is not in the content, so taking it out changes nothing
  pub content_of-absent : {V : Type 0} (k : K) (es next : List (K × Option V)) → next ≡ es → IsStrictlySortedBy R (keys_of es) → is_some (flatten (lookup (is_at (R k)) es)) ≡ false
      → content_of next ≡ remove_entry (is_at (R k)) (content_of es)
  content_of-absent k es next n s h =
      ap content_of n ∙ sym (remove_entry-none (is_at (R k)) (content_of es) (lookup-content_of k es s ∙ none_from_is_some (flatten (lookup (is_at (R k)) es)) h))

  -- ---- undoing and settling, one change at a time

  -- what is left of the log and the entries leads to the same
  pub record IsUndoing {V : Type 0} (log₀ : List (Logged K V)) (es₀ : List (K × Option V)) (log : List (Logged K V)) (es : List (K × Option V)) : Type 0 where
    pub kept : IsKept R log es
    pub same : undone R (reverse log) es ≡ undone R (reverse log₀) es₀

  -- a change is of the key q, which had a value before it
  abbrev pub is_change_of : {V : Type 0} → K → Logged K V → Bool
  is_change_of q c = is_at (R q) c.0 && has_value c.1

  -- some change is
  abbrev pub is_logged : {V : Type 0} → K → List (Logged K V) → Bool
  is_logged q log = list_any (is_change_of q) log

  pub record IsSettling {V : Type 0} (es₀ : List (K × Option V)) (log : List (Logged K V)) (es : List (K × Option V)) : Type 0 where
    pub ordered : IsStrictlySortedBy R (keys_of es)
    pub same : content_of es ≡ content_of es₀
    pub vacant : (q : K) → lookup (is_at (R q)) es ≡ Some None → is_logged q log ≡ true

  remove_other_at : {X : Type 0} (k q : K) (e : K × X) (es : List (K × X)) → is_at (R q) k ≡ false → lookup (is_at (R q)) (remove_entry (is_at (R k)) es) ≡ lookup (is_at (R q)) es
      → (r : Ordering) → R k e.0 ≡ r → lookup (is_at (R q)) (cond (is_eq r) es (e ∷ remove_entry (is_at (R k)) es)) ≡ cond (is_at (R q) e.0) (Some e.1) (lookup (is_at (R q)) es)
  remove_other_at k q e es n ih Less h = rw ih refl
  remove_other_at k q e es n ih Equal h = rw (← alike_right o k e.0 q h) (rw n refl)
  remove_other_at k q e es n ih Greater h = rw ih refl

  pub lookup-remove_other : {X : Type 0} (k q : K) (es : List (K × X)) → is_at (R q) k ≡ false → lookup (is_at (R q)) (remove_entry (is_at (R k)) es) ≡ lookup (is_at (R q)) es
  lookup-remove_other k q [] n = refl
  lookup-remove_other k q (e ∷ es) n = remove_other_at k q e es n (lookup-remove_other k q es n) (R k e.0) refl

  insert_other_at : {X : Type 0} (k q : K) (w : X) (e : K × X) (es ins : List (K × X)) → is_at (R q) k ≡ false → lookup (is_at (R q)) ins ≡ lookup (is_at (R q)) es
      → (r : Ordering) → R k e.0 ≡ r → lookup (is_at (R q)) (match_ordering r ((k, w) ∷ e ∷ es) ((e.0, w) ∷ es) (e ∷ ins)) ≡ cond (is_at (R q) e.0) (Some e.1) (lookup (is_at (R q)) es)
  insert_other_at k q w e es ins n ih Less h = rw n refl
  insert_other_at k q w e es ins n ih Equal h = rw (← alike_right o k e.0 q h) (rw n refl)
  insert_other_at k q w e es ins n ih Greater h = rw ih refl

  pub lookup-insert_other : {X : Type 0} (k q : K) (w : X) (es : List (K × X)) → is_at (R q) k ≡ false → lookup (is_at (R q)) (insert_entry R es k w) ≡ lookup (is_at (R q)) es
  lookup-insert_other k q w [] n = rw n refl
  lookup-insert_other k q w (e ∷ es) n = insert_other_at k q w e es (insert_entry R es k w) n (lookup-insert_other k q w es n) (R k e.0) refl

  pub lookup-reverted_other : {V : Type 0} (k q : K) (b : Option (Option V)) (es : List (K × Option V)) → is_at (R q) k ≡ false → lookup (is_at (R q)) (reverted R k b es) ≡ lookup (is_at (R q)) es
  lookup-reverted_other k q None es n = lookup-remove_other k q es n
  lookup-reverted_other k q (Some w) es n = lookup-insert_other k q w es n

  none_vacant_at : {V : Type 0} (t : Bool) (x : Option V) (y : Option (Option V)) → IsSome x → ((y ≡ Some None) → ⊥) → cond t (Some x) y ≡ Some None → ⊥
  none_vacant_at true None y h n e = absurd (false≢true h)
  none_vacant_at true (Some v) y h n e = cc
  none_vacant_at false x y h n e = n e

  none_vacant : {V : Type 0} (q : K) (es : List (K × Option V)) → AllByRecursion (λ e. IsSome e.1) es → lookup (is_at (R q)) es ≡ Some None → ⊥
  none_vacant q [] a h = cc
  none_vacant q (e ∷ es) a h = none_vacant_at (is_at (R q) e.0) e.1 (lookup (is_at (R q)) es) a.0 (none_vacant q es a.1) h

  or_true : (a s b : Bool) → (a ≡ false → b ≡ true) → (a ≡ true → s ≡ false → ⊥) → ((a && s) || b) ≡ true
  or_true true true b h n = refl
  or_true true false b h n = absurd (n refl refl)
  or_true false s b h n = h refl

  pub equal_from_is_eq : (r : Ordering) → is_eq r ≡ true → r ≡ Equal
  equal_from_is_eq Less h = absurd (false≢true h)
  equal_from_is_eq Equal h = refl
  equal_from_is_eq Greater h = absurd (false≢true h)

  pub lookup_alike : {X : Type 0} (q k : K) (es : List (K × X)) → R q k ≡ Equal → lookup (is_at (R q)) es ≡ lookup (is_at (R k)) es
  lookup_alike q k [] h = refl
  lookup_alike q k (e ∷ es) h = rw (o.congr q k e.0 h) (rw (lookup_alike q k es h) refl)

  -- a change of a key that had no value leaves its place with one
  made_filled : {V : Type 0} (q : K) (c : Logged K V) (es : List (K × Option V)) → IsMade R c es → lookup (is_at (R q)) es ≡ Some None → is_at (R q) c.0 ≡ true → has_value c.1 ≡ false → ⊥
  made_filled q c es m h t n =
      false≢true (sym (m.filled n) ∙ ap is_vacant (sym (lookup_alike q c.0 es (equal_from_is_eq (R q c.0) t)) ∙ h))

  -- each vacant place is of a change, the newest first
  vacant_undoable : {V : Type 0} (q : K) (cs : List (Logged K V)) (es : List (K × Option V)) → CanUndo R cs es → lookup (is_at (R q)) es ≡ Some None → is_logged q cs ≡ true
  vacant_undoable q [] es u h = absurd (none_vacant q es u h)
  vacant_undoable q (c ∷ cs) es u h =
      or_true (is_at (R q) c.0) (has_value c.1) (is_logged q cs) (λ n. vacant_undoable q cs (reverted R c.0 c.1 es) u.1 (lookup-reverted_other c.0 q c.1 es n ∙ h)) (made_filled q c es u.0 h)

  pub IsSettling-from_kept : {V : Type 0} (log : List (Logged K V)) (es : List (K × Option V)) → IsKept R log es → IsSettling es log es
  IsSettling-from_kept log es k = record {
    ordered = k.ordered;
    same = refl;
    vacant = λ q h. list_any-IsPermutation (is_change_of q) log (reverse log) (IsPermutation-reverse log) ∙ vacant_undoable q (reverse log) es k.undoable h;
  }

  lookup_removed_at : {X : Type 0} (k : K) (e : K × X) (es : List (K × X)) → IsStrictlySortedBy R (keys_of (e ∷ es)) → lookup (is_at (R k)) (remove_entry (is_at (R k)) es) ≡ None
      → (r : Ordering) → R k e.0 ≡ r → lookup (is_at (R k)) (cond (is_eq r) es (e ∷ remove_entry (is_at (R k)) es)) ≡ None
  lookup_removed_at k e es s ih Less h = rw h ih
  lookup_removed_at k e es s ih Equal h = lookup-above k es (above_equal k e.0 es h (sorted_head R e.0 (keys_of es) s))
  lookup_removed_at k e es s ih Greater h = rw h ih

  pub lookup-removed : {X : Type 0} (k : K) (es : List (K × X)) → IsStrictlySortedBy R (keys_of es) → lookup (is_at (R k)) (remove_entry (is_at (R k)) es) ≡ None
  lookup-removed k [] s = refl
  lookup-removed k (e ∷ es) s = lookup_removed_at k e es s (lookup-removed k es (sorted_tail R e.0 (keys_of es) s)) (R k e.0) refl

  remove_vacant_at : {V : Type 0} (e : K × Option V) (es rest : List (K × Option V)) (y : Option (Option V)) → (y ≡ Some None → content_of rest ≡ content_of es)
      → (t : Bool) → cond t (Some e.1) y ≡ Some None → content_of (cond t es (e ∷ rest)) ≡ content_of (e ∷ es)
  remove_vacant_at e es rest y ih true h = let n : e.1 ≡ None = cc in rw n refl
  remove_vacant_at e es rest y ih false h = ap (with_place e.0 e.1) (ih h)

  content_of-remove_vacant : {V : Type 0} (k : K) (es : List (K × Option V)) → lookup (is_at (R k)) es ≡ Some None → content_of (remove_entry (is_at (R k)) es) ≡ content_of es
  content_of-remove_vacant k [] h = refl
  content_of-remove_vacant k (e ∷ es) h =
      remove_vacant_at e es (remove_entry (is_at (R k)) es) (lookup (is_at (R k)) es) (content_of-remove_vacant k es) (is_at (R k) e.0) h

  pub vacant_from_is_vacant : {V : Type 0} (p : Option (Option V)) → is_vacant p ≡ true → p ≡ Some None
  vacant_from_is_vacant None h = absurd (false≢true h)
  vacant_from_is_vacant (Some None) h = refl
  vacant_from_is_vacant (Some (Some v)) h = absurd (false≢true h)

  logged_before : {V : Type 0} (q : K) (log : List (Logged K V)) (c : Logged K V) → is_logged q (log ++ c ∷ []) ≡ true → is_change_of q c ≡ false → is_logged q log ≡ true
  logged_before q log c h n =
      let e : (is_logged q log || (is_change_of q c || false)) ≡ true = sym (list_any-append (is_change_of q) log (c ∷ [])) ∙ h in
      or_left (is_logged q log) (is_change_of q c) e n
    where
      or_left : (a b : Bool) → (a || (b || false)) ≡ true → b ≡ false → a ≡ true
      or_left true b e n = refl
      or_left false b e n = absurd (false≢true (sym (ap (λ x. x || false) n) ∙ e))

  and_false : (a b : Bool) → b ≡ false → (a && b) ≡ false
  and_false true b h = h
  and_false false b h = refl

  -- once the place of the last change is cleared, each vacant place is of an earlier change
  vacant-pop : {V : Type 0} (log : List (Logged K V)) (c : Logged K V) (es : List (K × Option V)) → IsStrictlySortedBy R (keys_of es)
      → ((q : K) → lookup (is_at (R q)) es ≡ Some None → is_logged q (log ++ c ∷ []) ≡ true) → (b : Bool) → is_vacant (lookup (is_at (R c.0)) es) ≡ b
      → (q : K) (t : Bool) → is_at (R q) c.0 ≡ t → lookup (is_at (R q)) (cond b (remove_entry (is_at (R c.0)) es) es) ≡ Some None → is_logged q log ≡ true
  vacant-pop log c es s v true i q true t h =
      let none : lookup (is_at (R q)) (remove_entry (is_at (R c.0)) es) ≡ None = lookup_alike q c.0 (remove_entry (is_at (R c.0)) es) (equal_from_is_eq (R q c.0) t) ∙ lookup-removed c.0 es s in cc
  vacant-pop log c es s v true i q false t h = logged_before q log c (v q (sym (lookup-remove_other c.0 q es t) ∙ h)) (ap (λ x. x && has_value c.1) t)
  vacant-pop log c es s v false i q true t h =
      absurd (false≢true (sym i ∙ ap is_vacant (sym (lookup_alike q c.0 es (equal_from_is_eq (R q c.0) t)) ∙ h)))
  vacant-pop log c es s v false i q false t h = logged_before q log c (v q h) (ap (λ x. x && has_value c.1) t)

  -- the same, whether it is cleared or its key had no value before that change
  vacant_after : {V : Type 0} (log : List (Logged K V)) (c : Logged K V) (es : List (K × Option V)) → IsStrictlySortedBy R (keys_of es)
      → ((q : K) → lookup (is_at (R q)) es ≡ Some None → is_logged q (log ++ c ∷ []) ≡ true) → (b : Bool) → has_value c.1 ≡ b
      → (q : K) → lookup (is_at (R q)) (cond b (cleared R c.0 es) es) ≡ Some None → is_logged q log ≡ true
  vacant_after log c es s v true i q h = vacant-pop log c es s v (is_vacant (lookup (is_at (R c.0)) es)) refl q (is_at (R q) c.0) refl h
  vacant_after log c es s v false i q h = logged_before q log c (v q h) (and_false (is_at (R q) c.0) (has_value c.1) i)

  content_of-cleared : {V : Type 0} (k : K) (es : List (K × Option V)) (b : Bool) → is_vacant (lookup (is_at (R k)) es) ≡ b → content_of (cond b (remove_entry (is_at (R k)) es) es) ≡ content_of es
  content_of-cleared k es true h = content_of-remove_vacant k es (vacant_from_is_vacant (lookup (is_at (R k)) es) h)
  content_of-cleared k es false h = refl

  content_of-cleared_after : {V : Type 0} (k : K) (es : List (K × Option V)) (b : Bool) → content_of (cond b (cleared R k es) es) ≡ content_of es
  content_of-cleared_after k es true = content_of-cleared k es (is_vacant (lookup (is_at (R k)) es)) refl
  content_of-cleared_after k es false = refl

  pub IsSettling-pop : {V : Type 0} (es₀ : List (K × Option V)) (all log : List (Logged K V)) (c : Logged K V) (es next : List (K × Option V))
      → all ≡ log ++ c ∷ [] → next ≡ cleared_after R c es → IsStrictlySortedBy R (keys_of next) → IsSettling es₀ all es → IsSettling es₀ log next
  IsSettling-pop es₀ all log c es next a n s u = record {
    ordered = s;
    same = ap content_of n ∙ content_of-cleared_after c.0 es (has_value c.1) ∙ u.same;
    vacant = λ q h. vacant_after log c es u.ordered (λ p v. ap (is_logged p) (sym a) ∙ u.vacant p v) (has_value c.1) refl q (ap (lookup (is_at (R q))) (sym n) ∙ h);
  }

  occupied_at : {V : Type 0} (x : Option V) → (x ≡ None → ⊥) → IsSome x
  occupied_at None h = absurd (h refl)
  occupied_at (Some v) h = refl

  -- a vacant place after the first is a vacant place
  vacant_later : {V : Type 0} (e : K × Option V) (es : List (K × Option V)) (q : K) → IsStrictlySortedBy R (keys_of (e ∷ es)) → (r : Ordering) → R q e.0 ≡ r
      → lookup (is_at (R q)) es ≡ Some None → lookup (is_at (R q)) (e ∷ es) ≡ Some None
  vacant_later e es q s Less h v = rw h v
  vacant_later e es q s Equal h v = let n : lookup (is_at (R q)) es ≡ None = lookup-above q es (above_equal q e.0 es h (sorted_head R e.0 (keys_of es) s)) in cc
  vacant_later e es q s Greater h v = rw h v

  pub occupied : {V : Type 0} (es : List (K × Option V)) → IsStrictlySortedBy R (keys_of es) → ((q : K) → lookup (is_at (R q)) es ≡ Some None → ⊥) → AllByRecursion (λ e. IsSome e.1) es
  occupied [] s h = tt
  occupied (e ∷ es) s h = (
    occupied_at e.1 (λ n. h e.0 (rw (tied_itself o e.0) (ap Some n))),
    occupied es (sorted_tail R e.0 (keys_of es) s) (λ q v. h q (vacant_later e es q s (R q e.0) refl v)),
  )

  pub IsKept-settled : {V : Type 0} (es₀ es : List (K × Option V)) (all log : List (Logged K V)) → all ≡ [] → log ≡ [] → IsSettling es₀ all es → IsKept R log es
  IsKept-settled es₀ es all log a n u = rw n (record { ordered = u.ordered; undoable = occupied es u.ordered (λ q v. false≢true (ap (is_logged q) (sym a) ∙ u.vacant q v)) })
