-- A value in the place of another.
use Rattle.std.proofs.Common.{◌≡◌, Bool, true, false, List, [], ◌∷◌, Option, Some, None, refl, ap, cond, Ordering}
use Rattle.std.specs.Prelude.{IsSome}
use Rattle.std.specs.declared.cmp.Ordering.TheVariants.{Less, Equal, Greater}
use Rattle.std.specs.Ordering.{is_eq, match_ordering}
use Rattle.std.specs.Cmp.{IsTotalOrder}
use Rattle.std.specs.List.Sorted.{IsStrictlySortedBy}
use Rattle.std.specs.Map.{keys_of, lookup, set_value}
use Rattle.std.specs.BTreeMap.{is_at, insert_entry}
use Rattle.std.proofs.lemmas.Bool.{false≢true}
use Rattle.std.proofs.lemmas.Map.Keys.{sorted_head, sorted_tail}
use Rattle.smq_shelf.proofs.Changes.{above_less, lookup-above}

none_at : {K X : Type 0} (e : K × X) (es next : List (K × X)) (w : X) (x : Option X) → (x ≡ None → next ≡ es) → (b : Bool) → cond b (Some e.1) x ≡ None
    → cond b ((e.0, w) ∷ es) (e ∷ next) ≡ e ∷ es
none_at e es next w x ih true h = cc
none_at e es next w x ih false h = ap (λ t. e ∷ t) (ih h)

-- where no key passes, nothing is replaced
pub set_value-none : {K X : Type 0} (test : K → Bool) (es : List (K × X)) (w : X) → lookup test es ≡ None → set_value test es w ≡ es
set_value-none test [] w h = refl
set_value-none test (e ∷ es) w h = none_at e es (set_value test es w) w (lookup test es) (set_value-none test es w) (test e.0) h

module _ {K : Type 0} {R : K → K → Ordering} (o : IsTotalOrder R) where
  there_at : {X : Type 0} (k : K) (w : X) (e : K × X) (es next ins : List (K × X)) → IsStrictlySortedBy R (keys_of (e ∷ es)) → (IsSome (lookup (is_at (R k)) es) → next ≡ ins)
      → (r : Ordering) → R k e.0 ≡ r → IsSome (cond (is_eq r) (Some e.1) (lookup (is_at (R k)) es))
      → cond (is_eq r) ((e.0, w) ∷ es) (e ∷ next) ≡ match_ordering r ((k, w) ∷ e ∷ es) ((e.0, w) ∷ es) (e ∷ ins)
  there_at k w e es next ins s ih Less l h =
      absurd (false≢true (rw (lookup-above o k es (above_less o k e.0 es l (sorted_head R e.0 (keys_of es) s))) at h))
  there_at k w e es next ins s ih Equal l h = refl
  there_at k w e es next ins s ih Greater l h = ap (λ t. e ∷ t) (ih h)

  -- to replace the value of a key that is there is to put that value in
  pub set_value-insert_entry : {X : Type 0} (k : K) (w : X) (es : List (K × X)) → IsStrictlySortedBy R (keys_of es) → IsSome (lookup (is_at (R k)) es)
      → set_value (is_at (R k)) es w ≡ insert_entry R es k w
  set_value-insert_entry k w [] s h = absurd (false≢true h)
  set_value-insert_entry k w (e ∷ es) s h =
      there_at k w e es (set_value (is_at (R k)) es w) (insert_entry R es k w) s (set_value-insert_entry k w es (sorted_tail R e.0 (keys_of es) s)) (R k e.0) refl h
