-- Entries with a value at a key, or without one there.
use Rattle.std.specs.Prelude.{List, Option, Some, None}
use Rattle.std.specs.declared.cmp.Ordering.{Ordering}
use Rattle.std.specs.Map.{remove_entry}
use Rattle.std.specs.BTreeMap.{is_at, insert_entry}

-- the entries with this value at a key, or with none there
abbrev pub with_value : {K V : Type 0} → (K → K → Ordering) → K → Option V → List (K × V) → List (K × V)
with_value cmp key None es = remove_entry (is_at (cmp key)) es
with_value cmp key (Some v) es = insert_entry cmp es key v
