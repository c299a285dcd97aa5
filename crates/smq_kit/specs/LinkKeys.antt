-- Keys of message ids, each on its link.
use Rattle.std.specs.Prelude.{ℕ, Bool, List}
use Rattle.std.specs.declared.cmp.Ordering.{Ordering}
use Rattle.std.specs.Ordering.{nat_cmp, ordering_then, eq_by_cmp}
use Rattle.std.specs.BTreeMap.{BTreeMap}
use Rattle.std.specs.FinMap as map
use Rattle.smq_kit.specs.declared.names.LinkId.{LinkId}
use Rattle.smq_kit.specs.declared.message_id.Form.{Form}
use Rattle.smq_kit.specs.Keys.{key_under}
use Rattle.smq_kit.specs.Orders.{key_cmp}
use Rattle.smq_kit.specs.declared.link_key.LinkKey.{LinkKey}
use Rattle.smq_kit.specs.contracts.link_key.LinkKeyOrd.TheImpl as link_key_ord

-- the key of an id of a link, under the form in which it is written
abbrev pub link_key : LinkId → Form → List ℕ → LinkKey
link_key link form id = record { link = link; key = key_under form id }

-- the order of keys: by link, then by key
abbrev pub link_key_cmp : LinkKey → LinkKey → Ordering
link_key_cmp a b = ordering_then (nat_cmp a.link.0 b.link.0) (key_cmp a.key b.key)

-- whether two are one key of one link
abbrev pub same_key : LinkKey → LinkKey → Bool
same_key a b = eq_by_cmp link_key_cmp a b

-- a map of std from keys as a finite map
abbrev pub by_key : {X : Type 0} → BTreeMap LinkKey X → map.FinMap link_key_cmp X
by_key kept = map.from_entries kept.entries

-- the order by which a map of std compares keys
abbrev pub kept_key_cmp : LinkKey → LinkKey → Ordering
kept_key_cmp = (link_key_ord.ghosts).cmp
