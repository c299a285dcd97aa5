-- How many places are vacant, as changes are made, taken back and settled.
use Rattle.std.proofs.Common.{◌≡◌, ℕ, ◌+◌, ◌≤◌, Bool, ◌&&◌, true, false, cond, List, [], ◌∷◌, length, reverse, Option, Some, None, refl, sym, ap, subst, ◌∙◌, Ordering, arith}
use Rattle.std.specs.declared.cmp.Ordering.TheVariants.{Less, Equal, Greater}
use Rattle.std.specs.Int.{from_bool}
use Rattle.std.specs.Prelude.{IsSome, is_some}
use Rattle.std.specs.Ordering.{match_ordering}
use Rattle.std.specs.Cmp.{IsTotalOrder}
use Rattle.std.specs.List.{AllByRecursion}
use Rattle.std.specs.Map.{lookup, remove_entry}
use Rattle.std.specs.BTreeMap.{is_at, insert_entry}
use Rattle.smq_shelf.specs.within.Undoing.{AreOccupied, IsKept, IsKeptBy, Logged, cleared_after, has_value, is_vacant, pasts, vacancies}
use Rattle.smq_shelf.proofs.Changes.{Puts, IsSettling, IsKept-put, pasts-put, IsKept-settled, vacant_from_is_vacant}

-- ---- how many are vacant

-- one place, if it is vacant
abbrev vacancy : {V : Type 0} → Option V → ℕ
vacancy x = cond (is_some x) 0 1

one-at-most : {V : Type 0} (x : Option V) → vacancy x ≤ 1
one-at-most None = omega arith
one-at-most (Some v) = omega arith

-- no more than there are places
pub vacancies-length : {K V : Type 0} (es : List (K × Option V)) → vacancies es ≤ length es
vacancies-length [] = omega arith
vacancies-length (e ∷ es) = let one = one-at-most e.1 in let rest = vacancies-length es in omega (arith, one, rest)

-- none where each place is occupied
pub vacancies-none : {K V : Type 0} (es : List (K × Option V)) → AreOccupied es → vacancies es ≡ 0
vacancies-none [] h = refl
vacancies-none (e ∷ es) h =
    let one : vacancy e.1 ≡ 0 = ap (λ b. cond b 0 1) h.0 in
    let rest = vacancies-none es h.1 in omega (arith, one, rest)

-- and only there
pub none-vacant : {K V : Type 0} (es : List (K × Option V)) → vacancies es ≤ 0 → AreOccupied es
none-vacant [] h = tt
none-vacant {K} {V} (e ∷ es) h = (at e.1 (omega (arith, h)), none-vacant es (omega (arith, h)))
  where
    at : (x : Option V) → vacancy x ≤ 0 → IsSome x
    at None n = absurd (omega (arith, n))
    at (Some v) n = refl

-- a vacant place was taken out
pub vacancies-removed : {K V : Type 0} (t : K → Bool) (es : List (K × Option V)) → lookup t es ≡ Some None → vacancies (remove_entry t es) + 1 ≡ vacancies es
vacancies-removed t [] h = cc
vacancies-removed {K} {V} t (e ∷ es) h = at (t e.0) (vacancies-removed t es) h
  where
    at : (b : Bool) → (lookup t es ≡ Some None → vacancies (remove_entry t es) + 1 ≡ vacancies es) → cond b (Some e.1) (lookup t es) ≡ Some None → vacancies (cond b es (e ∷ remove_entry t es)) + 1 ≡ vacancies (e ∷ es)
    at true ih h =
        let n : e.1 ≡ None = cc in
        let one : vacancy e.1 ≡ 1 = ap vacancy n in omega (arith, one)
    at false ih h = let rest = ih h in omega (arith, rest)

module _ {K : Type 0} {R : K → K → Ordering} (o : IsTotalOrder R) where
  vacancies-at : {V : Type 0} (k : K) (w : Option V) (e : K × Option V) (es next : List (K × Option V)) → vacancies next ≤ vacancies es + vacancy w → (r : Ordering)
      → vacancies (match_ordering r ((k, w) ∷ e ∷ es) ((e.0, w) ∷ es) (e ∷ next)) ≤ vacancies (e ∷ es) + vacancy w
  vacancies-at k w e es next h Less = omega arith
  vacancies-at k w e es next h Equal = omega arith
  vacancies-at k w e es next h Greater = omega (arith, h)

  -- a place was put in
  pub vacancies-inserted : {V : Type 0} (k : K) (w : Option V) (es : List (K × Option V)) → vacancies (insert_entry R es k w) ≤ vacancies es + vacancy w
  vacancies-inserted k w [] = omega arith
  vacancies-inserted k w (e ∷ es) = vacancies-at k w e es (insert_entry R es k w) (vacancies-inserted k w es) (R k e.0)

  -- what a change made vacant, if anything, was taken out
  pub vacancies-cleared : {V : Type 0} (c : Logged K V) (es next : List (K × Option V)) (told : Bool) → told ≡ (has_value c.1 && is_vacant (lookup (is_at (R c.0)) es))
      → next ≡ cleared_after R c es → vacancies next + from_bool told ≡ vacancies es
  vacancies-cleared {V} c es next told t n = (λ i. vacancies (n i) + from_bool (t i)) ∙ at (has_value c.1) (is_vacant (lookup (is_at (R c.0)) es)) refl
    where
      at : (b d : Bool) → is_vacant (lookup (is_at (R c.0)) es) ≡ d
          → vacancies (cond b (cond d (remove_entry (is_at (R c.0)) es) es) es) + from_bool (b && d) ≡ vacancies es
      at true true h = vacancies-removed (is_at (R c.0)) es (vacant_from_is_vacant o (lookup (is_at (R c.0)) es) h)
      at true false h = omega arith
      at false d h = omega arith

  -- ---- how many may be

  -- no more than so many are vacant, so no more than a greater number
  pub at-most : {V : Type 0} (n m : ℕ) (ps : List (List (K × Option V))) → n ≤ m → AllByRecursion (λ past. vacancies past ≤ n) ps
      → AllByRecursion (λ past. vacancies past ≤ m) ps
  at-most n m [] l h = tt
  at-most n m (p ∷ ps) l h = (omega (arith, h.0, l), at-most n m ps l h.1)

  pub IsKeptBy-more : {V : Type 0} (n m : ℕ) (log : List (Logged K V)) (es : List (K × Option V)) → n ≤ m → IsKeptBy R n log es → IsKeptBy R m log es
  IsKeptBy-more {V} n m log es l h = record { kept = h.kept; vacant = at-most {V = V} n m (es ∷ pasts R (reverse log) es) l h.vacant }

  -- a place was put in, after which no more are vacant than may be
  IsKeptBy-put : {V : Type 0} {k : K} {w : Option V} {log after : List (Logged K V)} {es next : List (K × Option V)} (n m : ℕ)
      → Puts o k w log es after next → n ≤ m → vacancies next ≤ m → IsKeptBy R n log es → IsKeptBy R m after next
  IsKeptBy-put {V} {log = log} {es = es} n m p l v h = record {
    kept = IsKept-put o p;
    vacant = (v, subst (λ (xs : List (List (K × Option V))). AllByRecursion (λ past. vacancies past ≤ m) xs) (sym (pasts-put o p)) (at-most {V = V} n m (es ∷ pasts R (reverse log) es) l h.vacant));
  }

  -- a key was given a value
  pub IsKeptBy-set : {V : Type 0} {k : K} {v : V} {log after : List (Logged K V)} {es next : List (K × Option V)} (n m : ℕ)
      → Puts o k (Some v) log es after next → n ≤ m → IsKeptBy R n log es → IsKeptBy R m after next
  IsKeptBy-set {V} {k = k} {v = v} {es = es} {next = next} n m p l h =
      let put : vacancies next ≤ vacancies es + 0 = subst (λ (xs : List (K × Option V)). vacancies xs ≤ vacancies es + 0) (sym p.entries) (vacancies-inserted k (Some v) es) in
      IsKeptBy-put n m p l (omega (arith, put, h.vacant.0, l)) h

  -- a key was taken out
  pub IsKeptBy-take : {V : Type 0} {k : K} {log after : List (Logged K V)} {es next : List (K × Option V)} (n m : ℕ)
      → Puts o k None log es after next → n ≤ m → (vacancies next ≤ n + 1 → vacancies next ≤ m) → IsKeptBy R n log es → IsKeptBy R m after next
  IsKeptBy-take {V} {k = k} {es = es} {next = next} n m p l more h =
      let put : vacancies next ≤ vacancies es + 1 = subst (λ (xs : List (K × Option V)). vacancies xs ≤ vacancies es + 1) (sym p.entries) (vacancies-inserted k None es) in
      IsKeptBy-put n m p l (more (omega (arith, put, h.vacant.0))) h

  -- once each change was looked at, no place is vacant
  pub vacancies-settled : {V : Type 0} (es₀ es : List (K × Option V)) (log : List (Logged K V)) → log ≡ [] → IsSettling o es₀ log es → vacancies es ≡ 0
  vacancies-settled es₀ es log a u = vacancies-none es (IsKept-settled o es₀ es log [] a refl u).undoable

  -- where no place is vacant, the log is emptied
  pub IsKept-settled-by : {V : Type 0} (es₀ es : List (K × Option V)) (log after : List (Logged K V)) → vacancies es ≤ 0 → after ≡ [] → IsSettling o es₀ log es → IsKept R after es
  IsKept-settled-by es₀ es log after none n u = rw n (record { ordered = u.ordered; undoable = none-vacant es none })

-- with no change in the log, no place is vacant
pub IsKeptBy-none : {K V : Type 0} {cmp : K → K → Ordering} (n : ℕ) (log : List (Logged K V)) (es : List (K × Option V)) → log ≡ [] → IsKept cmp log es
    → IsKeptBy cmp n log es
IsKeptBy-none {cmp = cmp} n log es e k =
    record { kept = k; vacant = rw e (let none = vacancies-none es (rw e at k.undoable) in (omega (arith, none), tt)) }

-- a log that is empty is as good as another
pub IsKept-empty : {K V : Type 0} {cmp : K → K → Ordering} (all log : List (Logged K V)) (es : List (K × Option V)) → all ≡ [] → log ≡ [] → IsKept cmp all es
    → IsKept cmp log es
IsKept-empty {K = K} {V = V} {cmp = cmp} all log es a n k = subst (λ (xs : List (Logged K V)). IsKept cmp xs es) (a ∙ sym n) k
