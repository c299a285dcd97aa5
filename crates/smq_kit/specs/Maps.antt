-- Words on finite maps. An edit of a map is told by the keys at which it may change something: what is chosen of each
-- entry for itself stays where the entry stays, and a number of values changes by what the edited keys had and have.
use Rattle.std.specs.Prelude.{◌≡◌, ℕ, zero, suc, Bool, true, false, not, List, [], ◌∷◌, ◌++◌, map, filter, count_by, Option, Some, None}
use Rattle.std.specs.Option.{option_to_list}
use Rattle.std.specs.List.{flat_map, list_any}
use Rattle.std.specs.declared.cmp.Ordering.{Ordering}
use Rattle.std.specs.Ordering.{eq_by_cmp}
use Rattle.std.specs.FinMap as fin

-- what f makes of an entry: its key with the value that f gives, or nothing where f gives none
abbrev pub kept_of : {K X Y : Type 0} → (K → X → Option Y) → K × X → List (K × Y)
kept_of f e = map (λ y. (e.0, y)) (option_to_list (f e.0 e.1))

-- the map of what f makes of each entry: a key that f gives no value is left out
unfoldable pub chosen : {K X Y : Type 0} {R : K → K → Ordering} → (K → X → Option Y) → fin.FinMap R X → fin.FinMap R Y
chosen f m = fin.from_entries (flat_map (kept_of f) (fin.entries m))

-- At every key that isn't among these, two maps have the same: one value, or both none.
pub record SameOutside {K X : Type 0} {R : K → K → Ordering} (keys : List K) (m n : fin.FinMap R X) : Type 0 where
  pub at : (q : K) → list_any (eq_by_cmp R q) keys ≡ false → fin.get m q ≡ fin.get n q

-- a map that is changed at one key, where it has this value now, or none
abbrev pub set_at : {K X : Type 0} {R : K → K → Ordering} → fin.FinMap R X → K → Option X → fin.FinMap R X
set_at m k None = fin.remove m k
set_at m k (Some v) = fin.insert m k v

-- a map that is changed at each of these keys, where it has now what g gives, or none
abbrev pub patched : {K X : Type 0} {R : K → K → Ordering} → fin.FinMap R X → (K → Option X) → List K → fin.FinMap R X
patched m g [] = m
patched m g (k ∷ ks) = patched (set_at m k (g k)) g ks

-- how many values of a map pass a test
abbrev pub number_of : {K X : Type 0} {R : K → K → Ordering} → (X → Bool) → fin.FinMap R X → ℕ
number_of test m = count_by test (fin.values m)

-- a number that isn't 0, or nothing
abbrev pub positive : ℕ → Option ℕ
positive zero = None
positive (suc n) = Some (suc n)

-- what the value at one key adds to that number: 1 where there is one and it passes the test, and else 0
abbrev pub share : {X : Type 0} → (X → Bool) → Option X → ℕ
share test v = count_by test (option_to_list v)

-- whether two maps have the same at a key: both no value, or two values that a test calls the same
abbrev pub same_option : {X : Type 0} → (X → X → Bool) → Option X → Option X → Bool
same_option same None None = true
same_option same (Some x) (Some y) = same x y
same_option same _ _ = false

-- the keys of one map or the other at which they don't have the same, by a test of values; a key of both may stand
-- twice
abbrev pub differing : {K X : Type 0} {R : K → K → Ordering} → (X → X → Bool) → fin.FinMap R X → fin.FinMap R X → List K
differing same m n = filter (λ q. not (same_option same (fin.get m q) (fin.get n q))) (fin.keys m ++ fin.keys n)
