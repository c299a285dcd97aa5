-- Keys of links and their numbers.
use Rattle.std.specs.Prelude.{◌≡◌, ℕ, suc, ◌+◌, ◌*◌, ◌%◌, ◌^◌, Bool, false, if◌then◌else◌, List, [], ◌∷◌, ◌++◌, Option, Some, None, option_map, slice_get}
use Rattle.std.specs.BTreeMap.{BTreeMap, is_at}
use Rattle.std.specs.Map.{lookup}
use Rattle.std.specs.Ordering.{is_eq, nat_cmp}
use Rattle.smq_kit.specs.Hashes.{hash_of}
use Rattle.smq_kit.specs.HashedKeys.{hashed_key_cmp}
use Rattle.smq_kit.specs.declared.link_key.LinkKey.{LinkKey}
use Rattle.smq_scratch.specs.declared.key_numbers.KeyNumbers.{KeyNumbers}

-- whether two are one key
abbrev pub is_key : LinkKey → LinkKey → Bool
is_key key other = is_eq (hashed_key_cmp key other)

-- whether what stands somewhere is this key
abbrev pub has : LinkKey → Option LinkKey → Bool
has key None = false
has key (Some other) = is_key key other

-- the number of a key: how many keys stand before it
abbrev pub index_of : LinkKey → List LinkKey → Option ℕ
index_of key [] = None
index_of key (k ∷ ks) = if is_key key k then Some 0 else option_map suc (index_of key ks)

-- keys with one more at the end, where it has no number
abbrev pub with_new : Option ℕ → LinkKey → List LinkKey → List LinkKey
with_new None key keys = keys ++ key ∷ []
with_new (Some number) key keys = keys

-- keys with one more at the end, where it is none of them
abbrev pub with_key : LinkKey → List LinkKey → List LinkKey
with_key key keys = with_new (index_of key keys) key keys

-- the slot of a key, by its hash and its link
abbrev pub slot_of : LinkKey → ℕ
slot_of key = (hash_of key.key + key.link.0 * 11400714819323198485 % 2 ^ 64) % 2 ^ 64

-- the number that a slot has
abbrev pub first_at : BTreeMap ℕ ℕ → LinkKey → Option ℕ
first_at firsts key = lookup (is_at (nat_cmp (slot_of key))) firsts.entries

-- the number that a key has beside those of slots
abbrev pub other_at : BTreeMap LinkKey ℕ → LinkKey → Option ℕ
other_at others key = lookup (is_at (hashed_key_cmp key)) others.entries

-- the number of a key: that of its slot where that is of this key, and else what stands beside those of slots
abbrev pub number_among : Option ℕ → List LinkKey → Option ℕ → LinkKey → Option ℕ
number_among None keys other key = other
number_among (Some number) keys other key = if has key (slice_get keys number) then Some number else other

-- the number that is kept of a key, where this is that of its slot
abbrev pub number_by : Option ℕ → KeyNumbers → LinkKey → Option ℕ
number_by first kept key = number_among first kept.keys.items (other_at kept.others key) key

-- There are no keys.
pub record NoKeys (kept : KeyNumbers) : Type 0 where
  pub keys : kept.keys.items ≡ []
  pub firsts : kept.firsts.entries ≡ []
  pub others : kept.others.entries ≡ []

-- What is kept of each key is its number.
abbrev pub AreNumbered : KeyNumbers → Type 0
AreNumbered kept = (key : LinkKey) → number_by (first_at kept.firsts key) kept key ≡ index_of key kept.keys.items
