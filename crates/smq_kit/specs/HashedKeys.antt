-- The order of keys with a hash.
use Rattle.std.specs.declared.cmp.Ordering.{Ordering}
use Rattle.smq_kit.specs.declared.link_key.LinkKey.{LinkKey}
use Rattle.smq_kit.specs.contracts.hashed_key.HashedKeyOrd.TheImpl as hashed_key_ord

-- the order by which maps compare such keys
abbrev pub hashed_key_cmp : LinkKey → LinkKey → Ordering
hashed_key_cmp = (hashed_key_ord.ghosts).cmp
