-- A log that takes changes back.
use Rattle.std.specs.Prelude.{◌≡◌, ◌≤◌, ◌+◌, ℕ, cond, Bool, true, false, List, [], ◌∷◌, Option, Some, None, IsSome, is_some, reverse}
use Rattle.std.specs.declared.cmp.Ordering.{Ordering}
use Rattle.std.specs.Map.{lookup, remove_entry, keys_of}
use Rattle.std.specs.List.{AllByRecursion}
use Rattle.std.specs.List.Sorted.{IsStrictlySortedBy}
use Rattle.std.specs.BTreeMap.{is_at, insert_entry}

-- the value of a place that is there and not vacant
abbrev pub flatten : {V : Type 0} → Option (Option V) → Option V
flatten None = None
flatten (Some x) = x

-- a place is there, and vacant
abbrev pub is_vacant : {V : Type 0} → Option (Option V) → Bool
is_vacant None = false
is_vacant (Some None) = true
is_vacant (Some (Some x)) = false

-- a place is there, and has a value
abbrev pub has_value : {V : Type 0} → Option (Option V) → Bool
has_value p = is_some (flatten p)

-- a key and its entry's value before a change: `None` where the key had no place
abbrev pub Logged : Type 0 → Type 0 → Type 0
Logged K V = K × Option (Option V)

module _ {K V : Type 0} (cmp : K → K → Ordering) where
  -- the entries before the change
  abbrev pub reverted : K → Option (Option V) → List (K × Option V) → List (K × Option V)
  reverted k None es = remove_entry (is_at (cmp k)) es
  reverted k (Some w) es = insert_entry cmp es k w

  -- the entries without the place of k, where that is vacant
  abbrev pub cleared : K → List (K × Option V) → List (K × Option V)
  cleared k es = cond (is_vacant (lookup (is_at (cmp k)) es)) (remove_entry (is_at (cmp k)) es) es

  -- the same of the place of a change's key, where it had a value before the change: no other change leaves one vacant
  abbrev pub cleared_after : Logged K V → List (K × Option V) → List (K × Option V)
  cleared_after c es = cond (has_value c.1) (cleared c.0 es) es

  -- the entries before the changes of a log, the newest first
  abbrev pub undone : List (Logged K V) → List (K × Option V) → List (K × Option V)
  undone [] es = es
  undone (c ∷ cs) es = undone cs (reverted c.0 c.1 es)

  -- the entries before each of the changes of a log, the newest first
  abbrev pub pasts : List (Logged K V) → List (K × Option V) → List (List (K × Option V))
  pasts [] es = []
  pasts (c ∷ cs) es = reverted c.0 c.1 es ∷ pasts cs (reverted c.0 c.1 es)

  -- a change made the entries: its key has a place, which isn't vacant unless it had a value before
  pub record IsMade (c : Logged K V) (es : List (K × Option V)) : Type 0 where
    pub there : IsSome (lookup (is_at (cmp c.0)) es)
    pub filled : has_value c.1 ≡ false → is_vacant (lookup (is_at (cmp c.0)) es) ≡ false

  -- each change made the entries from which it is taken back, and none of them is vacant in the end
  abbrev pub CanUndo : List (Logged K V) → List (K × Option V) → Type 0
  CanUndo [] es = AllByRecursion (λ e. IsSome e.1) es
  CanUndo (c ∷ cs) es = IsMade c es × CanUndo cs (reverted c.0 c.1 es)

-- the entries of a shelf and its log: the keys ascend, and each change can be taken back
pub record IsKept {K V : Type 0} (cmp : K → K → Ordering) (log : List (Logged K V)) (es : List (K × Option V)) : Type 0 where
  pub ordered : IsStrictlySortedBy cmp (keys_of es)
  pub undoable : CanUndo cmp (reverse log) es

-- no place of the entries is vacant
abbrev pub AreOccupied : {K V : Type 0} → List (K × Option V) → Type 0
AreOccupied es = AllByRecursion (λ e. IsSome e.1) es

-- how many places of the entries are vacant
abbrev pub vacancies : {K V : Type 0} → List (K × Option V) → ℕ
vacancies [] = 0
vacancies (e ∷ es) = cond (is_some e.1) 0 1 + vacancies es

-- the same, and no more than so many places are vacant, now or before a change of the log
pub record IsKeptBy {K V : Type 0} (cmp : K → K → Ordering) (most_vacant : ℕ) (log : List (Logged K V)) (es : List (K × Option V)) : Type 0 where
  pub kept : IsKept cmp log es
  pub vacant : AllByRecursion (λ past. vacancies past ≤ most_vacant) (es ∷ pasts cmp (reverse log) es)
