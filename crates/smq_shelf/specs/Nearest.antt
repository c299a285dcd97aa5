-- The entries next to a key.
use Rattle.std.specs.Prelude.{◌≡◌, false, List, Option, Some, None, IsSome, MatchOption}
use Rattle.std.specs.declared.cmp.Ordering.{Ordering}
use Rattle.std.specs.Ordering.{is_gt, is_lt}
use Rattle.std.specs.Map.{lookup}
use Rattle.std.specs.BTreeMap.{is_at}

module _ {K V : Type 0} (cmp : K → K → Ordering) where
  -- an entry is the least at or above a key
  pub record IsLeastFrom (key : K) (es : List (K × V)) (e : K × V) : Type 0 where
    pub above : is_gt (cmp key e.0) ≡ false
    pub there : lookup (is_at (cmp e.0)) es ≡ Some e.1
    pub least : (q : K) → is_gt (cmp key q) ≡ false → IsSome (lookup (is_at (cmp q)) es) → is_gt (cmp e.0 q) ≡ false

  -- an entry is the greatest at or below a key
  pub record IsGreatestUpTo (key : K) (es : List (K × V)) (e : K × V) : Type 0 where
    pub below : is_gt (cmp e.0 key) ≡ false
    pub there : lookup (is_at (cmp e.0)) es ≡ Some e.1
    pub greatest : (q : K) → is_gt (cmp q key) ≡ false → IsSome (lookup (is_at (cmp q)) es) → is_lt (cmp e.0 q) ≡ false

  -- what is found is the least entry at or above a key, or there is none there
  abbrev pub FindsFrom : K → List (K × V) → Option (K × V) → Type 0
  FindsFrom key es found =
      MatchOption found ((q : K) → is_gt (cmp key q) ≡ false → lookup (is_at (cmp q)) es ≡ None) (IsLeastFrom key es)

  -- what is found is the greatest entry at or below a key, or there is none there
  abbrev pub FindsUpTo : K → List (K × V) → Option (K × V) → Type 0
  FindsUpTo key es found =
      MatchOption found ((q : K) → is_gt (cmp q key) ≡ false → lookup (is_at (cmp q)) es ≡ None) (IsGreatestUpTo key es)
