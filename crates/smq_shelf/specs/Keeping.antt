-- What contracts see of a map that can be undone.
use Rattle.std.specs.Prelude.{ℕ, List, Option}

-- of one whose calls are counted
pub record Keeping (K V : Type 0) : Type 0 where
  -- the entries, in the keys' order
  pub content : List (K × V)
  -- the content at the last `settle`, or when it was made
  pub settled : List (K × V)
  -- the content with the vacant places of keys that were removed since
  pub places : List (K × Option V)
  -- the places before each change since, the last change's first
  pub past : List (List (K × Option V))
  pub touches : ℕ
  -- how many changes `undo` would take back, one by one
  pub pending : ℕ

-- the same once there were so many touches
abbrev pub with_touches : {K V : Type 0} → ℕ → Keeping K V → Keeping K V
with_touches touches map = record {
  content = map.content;
  settled = map.settled;
  places = map.places;
  past = map.past;
  touches = touches;
  pending = map.pending;
}

-- of one that is read through `&self`
pub record KeepingMap (K V : Type 0) : Type 0 where
  pub content : List (K × V)
  pub settled : List (K × V)
  pub places : List (K × Option V)
  pub past : List (List (K × Option V))
