-- A value that a change alters where it stands, puts in or takes out.
use Rattle.std.proofs.Common.{◌≡◌, ℕ, ◌+◌, ◌≤◌, Bool, true, false, List, [], ◌∷◌, ◌++◌, Option, Some, None, refl, sym, ap, ◌∙◌, reverse, ◌||◌, ◌&&◌, not, Ordering}
use Rattle.std.specs.Prelude.{is_some, if◌then◌else◌}
use Rattle.std.specs.Cmp.{IsTotalOrder}
use Rattle.std.specs.List.Sorted.{IsStrictlySortedBy}
use Rattle.std.specs.Map.{keys_of, lookup, set_value}
use Rattle.std.specs.BTreeMap.{is_at, insert_entry}
use Rattle.std.proofs.lemmas.Bool.{false≢true}
use Rattle.std.proofs.lemmas.Map.Lookups.{CmpEqualImpliesEq}
use Rattle.std.proofs.lemmas.Map.Steps.{set_value_same}
use Rattle.smq_shelf.specs.Places.{content_of}
use Rattle.smq_shelf.specs.Values.{with_value}
use Rattle.smq_shelf.specs.within.Undoing.{IsKept, IsKeptBy, Logged, flatten, has_value, is_vacant, pasts, undone, vacancies}
use Rattle.smq_shelf.proofs.Changes.{Puts, undone-put, pasts-put, content_of-put_none, content_of-put_some, lookup-content_of, remove_entry-none}
use Rattle.smq_shelf.proofs.Replacing.{set_value-insert_entry}
use Rattle.smq_shelf.proofs.Vacancies.{IsKeptBy-more, IsKeptBy-set, IsKeptBy-take}

-- a place without a value has none
pub none_there : {V : Type 0} (x : Option V) → is_some x ≡ false → x ≡ None
none_there None e = refl
none_there (Some v) e = absurd (false≢true (sym e))

module _ {K : Type 0} {R : K → K → Ordering} (o : IsTotalOrder R) where
  -- a place that was vacant and stays so is as it was
  vacant-stays : {V : Type 0} (k : K) (es : List (K × Option V)) (x w : Option V) → IsStrictlySortedBy R (keys_of es) → lookup (is_at (R k)) es ≡ Some x
      → insert_entry R es k w ≡ (if is_some x || is_some w then insert_entry R es k w else es)
  vacant-stays k es (Some u) w s there = refl
  vacant-stays k es None (Some v) s there = refl
  vacant-stays k es None None s there = sym (set_value-insert_entry o k None es s (rw there refl)) ∙ set_value_same _ _ _ there

  -- a place that is there is changed where it stands
  pub changed-there : {V : Type 0} (A : Option V → Option V) (k : K) (es next : List (K × Option V)) (x y : Option V) (had has : Bool)
      → IsStrictlySortedBy R (keys_of es) → Some x ≡ lookup (is_at (R k)) es → had ≡ is_some x → has ≡ is_some (A x) → y ≡ A x
      → next ≡ set_value (is_at (R k)) es y
      → next ≡ (if had || has then insert_entry R es k (A (flatten (lookup (is_at (R k)) es))) else es)
  changed-there A k es next x y had has s there was is made set =
      set ∙ rw (made, was, is, ← there) (set_value-insert_entry o k (A x) es s (rw (← there) refl) ∙ vacant-stays k es x (A x) s (sym there))

  -- `next` and `after` are the entries and the log once w was made of the value at k
  pub record Alters {V : Type 0} (k : K) (had has : Bool) (w : Option V) (log : List (Logged K V)) (es : List (K × Option V)) (after : List (Logged K V)) (next : List (K × Option V)) : Type 0 where
    pub was : had ≡ has_value (lookup (is_at (R k)) es)
    pub is : has ≡ is_some w
    pub entries : next ≡ (if had || has then insert_entry R es k w else es)
    pub logged : after ≡ (if had || has then log ++ (k, lookup (is_at (R k)) es) ∷ [] else log)
    pub ordered : IsStrictlySortedBy R (keys_of next)
    pub kept : IsKept R log es

  filled : {V : Type 0} (had has : Bool) (w : Option V) → has ≡ is_some w → had || has ≡ true → had ≡ false → is_vacant (Some w) ≡ false
  filled had has None i any none = absurd (false≢true (rw (none, i) at any))
  filled had has (Some v) i any none = refl

  module _ {V : Type 0} {k : K} {had has : Bool} {w : Option V} {log after : List (Logged K V)} {es next : List (K × Option V)} (a : Alters k had has w log es after next) where
    puts : had || has ≡ true → Puts o k w log es after next
    puts any = record {
      entries = rw any at a.entries;
      ordered = a.ordered;
      logged = rw any at a.logged;
      filled = λ none. filled had has w a.is any (a.was ∙ none);
      kept = a.kept;
    }

    -- the value before it, as the log tells it
    pub before-altered : (x : Option V)
        → (had ≡ true → (cs : List (Logged K V)) (q : K) (before : Option (Option V)) → after ≡ cs ++ (q, before) ∷ [] → x ≡ flatten before)
        → (had ≡ false → x ≡ None) → x ≡ flatten (lookup (is_at (R k)) es)
    before-altered x some none = at had refl
      where
        at : (b : Bool) → had ≡ b → x ≡ flatten (lookup (is_at (R k)) es)
        at true h = some h log k (lookup (is_at (R k)) es) (puts (rw h refl)).logged
        at false h = none h ∙ sym (none_there (flatten (lookup (is_at (R k)) es)) (sym a.was ∙ h))

    pub undone-altered : undone R (reverse after) next ≡ undone R (reverse log) es
    undone-altered = at (had || has) refl
      where
        at : (b : Bool) → had || has ≡ b → undone R (reverse after) next ≡ undone R (reverse log) es
        at true h = undone-put o (puts h)
        at false h = rw (rw h at a.logged, rw h at a.entries) refl

    pub pasts-altered : pasts R (reverse after) next ≡ (if had || has then es ∷ pasts R (reverse log) es else pasts R (reverse log) es)
    pasts-altered = at (had || has) refl
      where
        at : (b : Bool) → had || has ≡ b → pasts R (reverse after) next ≡ (if b then es ∷ pasts R (reverse log) es else pasts R (reverse log) es)
        at true h = pasts-put o (puts h)
        at false h = rw (rw h at a.logged, rw h at a.entries) refl

    content_put : CmpEqualImpliesEq R → (x : Option V) → Puts o k x log es after next → content_of next ≡ with_value R k x (content_of es)
    content_put exact None p = content_of-put_none o p
    content_put exact (Some v) p = content_of-put_some o exact p

    content_stays : (had has : Bool) (x : Option V) → had ≡ has_value (lookup (is_at (R k)) es) → has ≡ is_some x → had || has ≡ false → next ≡ es
        → content_of next ≡ with_value R k x (content_of es)
    content_stays true has x was is h same = absurd (false≢true (sym h))
    content_stays false has (Some v) was is h same = absurd (false≢true (sym h ∙ is))
    content_stays false has None was is h same =
        ap content_of same ∙ sym (remove_entry-none o (is_at (R k)) (content_of es) (lookup-content_of o k es a.kept.ordered ∙ none_there (flatten (lookup (is_at (R k)) es)) (sym was)))

    pub content_of-altered : CmpEqualImpliesEq R → content_of next ≡ with_value R k w (content_of es)
    content_of-altered exact = at (had || has) refl
      where
        at : (b : Bool) → had || has ≡ b → content_of next ≡ with_value R k w (content_of es)
        at true h = content_put exact w (puts h)
        at false h = content_stays had has w a.was a.is h (rw h at a.entries)

    given_kept : (x : Option V) (n m : ℕ) → is_some x ≡ true → Puts o k x log es after next → n ≤ m → IsKeptBy R n log es → IsKeptBy R m after next
    given_kept None n m i p l kept = absurd (false≢true i)
    given_kept (Some v) n m i p l kept = IsKeptBy-set o n m p l kept

    taken_kept : (x : Option V) (n m : ℕ) → is_some x ≡ false → Puts o k x log es after next → n ≤ m → (vacancies next ≤ n + 1 → vacancies next ≤ m)
        → IsKeptBy R n log es → IsKeptBy R m after next
    taken_kept None n m i p l more kept = IsKeptBy-take o n m p l more kept
    taken_kept (Some v) n m i p l more kept = absurd (false≢true (sym i))

    pub IsKeptBy-altered : (n m : ℕ) → n ≤ m → (had && not has ≡ true → vacancies next ≤ n + 1 → vacancies next ≤ m) → IsKeptBy R n log es
        → IsKeptBy R m after next
    IsKeptBy-altered n m l more kept = at had has refl refl
      where
        at : (x y : Bool) → had ≡ x → has ≡ y → IsKeptBy R m after next
        at true true hx hy = given_kept w n m (sym a.is ∙ hy) (puts (rw hx refl)) l kept
        at false true hx hy = given_kept w n m (sym a.is ∙ hy) (puts (rw (hx, hy) refl)) l kept
        at true false hx hy = taken_kept w n m (sym a.is ∙ hy) (puts (rw hx refl)) l (more (rw (hx, hy) refl)) kept
        at false false hx hy = rw (rw (hx, hy) at a.logged, rw (hx, hy) at a.entries) (IsKeptBy-more o n m log es l kept)
