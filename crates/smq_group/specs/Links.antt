-- The members of a link.
use Rattle.std.specs.Prelude.{◌==◌, if◌then◌else◌, Some, None}
use Rattle.std.specs.FinMap as fin
use Rattle.smq_kit.specs.declared.names.LinkId.{LinkId}
use Rattle.smq_kit.specs.declared.link_key.LinkKey.{LinkKey}
use Rattle.smq_kit.specs.Maps.{chosen}
use Rattle.smq_kit.specs.Orders.{place_cmp}
use Rattle.smq_group.specs.Matching.{Grouping, GroupedReceipt}

-- the submits of a link's keys
abbrev pub submits_on : LinkId → Grouping → fin.FinMap place_cmp LinkKey
submits_on link g = chosen (λ place key. if key.link.0 == link.0 then Some key else None) g.submits

-- and the receipts
abbrev pub receipts_on : LinkId → Grouping → fin.FinMap place_cmp GroupedReceipt
receipts_on link g = chosen (λ place r. if r.key.link.0 == link.0 then Some r else None) g.receipts
