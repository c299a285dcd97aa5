-- Sets of keys that are made of what stands at places, one key of each at most.
use Rattle.std.specs.Prelude.{Bool, false, map, Option, Some, None, option_to_list}
use Rattle.std.specs.List.{flat_map}
use Rattle.std.specs.declared.cmp.Ordering.{Ordering}
use Rattle.std.specs.FinMap as fin
use Rattle.std.specs.FinSet.{FinSet}
use Rattle.smq_kit.specs.declared.place.Place.{Place}
use Rattle.smq_kit.specs.Orders.{place_cmp}

-- the keys that f makes of the entries of a map by place
unfoldable pub keys_made : {X K : Type 0} {R : K → K → Ordering} → (Place → X → Option K) → fin.FinMap place_cmp X → FinSet R
keys_made f m = fin.from_entries (map (λ k. (k, tt)) (flat_map (λ e. option_to_list (f e.0 e.1)) (fin.entries m)))

-- a set with a key more, if any
abbrev pub with_key : {K : Type 0} {R : K → K → Ordering} → Option K → FinSet R → FinSet R
with_key None keys = keys
with_key (Some k) keys = fin.insert keys k tt

-- a set without a key, if any
abbrev pub without_key : {K : Type 0} {R : K → K → Ordering} → Option K → FinSet R → FinSet R
without_key None keys = keys
without_key (Some k) keys = fin.remove keys k

-- whether there is a key and it passes a test
abbrev pub passes : {K : Type 0} → (K → Bool) → Option K → Bool
passes test None = false
passes test (Some k) = test k
