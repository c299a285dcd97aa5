-- What contracts see of groups.
use Rattle.std.specs.Prelude.{ℕ, Bool, List, count_by, refl}
use Rattle.std.specs.Coded.{Coded, code_by, coded×, coded_list, coded_ℕ, coded_bool}
use Rattle.std.specs.FinMap as fin
use Rattle.smq_kit.specs.declared.place.Place.{Place}
use Rattle.smq_kit.specs.declared.names.LinkId.{LinkId}
use Rattle.smq_kit.specs.declared.message_id.Key.{Key}
use Rattle.smq_kit.specs.declared.link_key.LinkKey.{LinkKey}
use Rattle.smq_kit.specs.Orders.{place_cmp}
use Rattle.smq_kit.specs.LinkKeys.{same_key}
use Rattle.smq_kit.specs.contracts.place.Place as place_block
use Rattle.smq_kit.specs.contracts.link_key.LinkKey as key_block
use Rattle.smq_group.specs.Matching.{Grouping, GroupedReceipt}

pub record GroupsValue : Type 0 where
  -- the members, by place
  pub members : Grouping
  -- the members at the last `settle`, or none
  pub settled : Grouping
  pub touches : ℕ
  -- how many changes `undo` would take back
  pub pending : ℕ
  -- the keys of members that were taken out since: one for each place that is vacant now, which a walk still passes
  pub vacant : List LinkKey

-- what is grouped of a receipt is stored as its key, moment and whether it can decide
abbrev pub receipt_code : Coded GroupedReceipt
receipt_code =
    code_by (LinkKey × (ℕ × Bool)) (coded× (key_block.the_row).coded (coded× coded_ℕ coded_bool))
    (λ r. (r.key, (r.moment, r.decides))) (λ m. record { key = m.0; moment = m.1.0; decides = m.1.1 }) (λ _. refl)

-- a grouping is stored as its two maps
abbrev pub grouping_code : Coded Grouping
grouping_code =
    code_by (fin.FinMap place_cmp LinkKey × fin.FinMap place_cmp GroupedReceipt)
    (coded× (fin.code (place_block.the_row).coded (key_block.the_row).coded) (fin.code (place_block.the_row).coded receipt_code))
    (λ g. (g.submits, g.receipts)) (λ m. record { submits = m.0; receipts = m.1 }) (λ _. refl)

-- groups are stored as these five
abbrev pub groups_code : Coded GroupsValue
groups_code =
    code_by (Grouping × (Grouping × (ℕ × (ℕ × List LinkKey)))) (coded× grouping_code (coded× grouping_code (coded× coded_ℕ (coded× coded_ℕ (coded_list (key_block.the_row).coded)))))
    (λ g. (g.members, (g.settled, (g.touches, (g.pending, g.vacant)))))
    (λ m. record { members = m.0; settled = m.1.0; touches = m.1.1.0; pending = m.1.1.1.0; vacant = m.1.1.1.1 }) (λ _. refl)

-- how many places of a key are vacant
abbrev pub vacancies : GroupsValue → LinkKey → ℕ
vacancies g key = count_by (same_key key) g.vacant

-- the key of a link
abbrev pub key_on : LinkId → Key → LinkKey
key_on link key = record { link = link; key = key }

-- what is asked of a receipt
abbrev pub receipt_with : LinkId → Key → ℕ → Bool → GroupedReceipt
receipt_with link key moment decides = record { key = key_on link key; moment = moment; decides = decides }

-- no members
abbrev pub no_members : Grouping
no_members = record { submits = fin.empty; receipts = fin.empty }

-- with one submit more
abbrev pub with_submit : Grouping → LinkKey → Place → Grouping
with_submit g key place = record g { submits = fin.insert g.submits place key }

-- without the submit at a place
abbrev pub without_submit : Grouping → Place → Grouping
without_submit g place = record g { submits = fin.remove g.submits place }

-- with one receipt more
abbrev pub with_receipt : Grouping → Place → GroupedReceipt → Grouping
with_receipt g place r = record g { receipts = fin.insert g.receipts place r }

-- without the receipt at a place
abbrev pub without_receipt : Grouping → Place → Grouping
without_receipt g place = record g { receipts = fin.remove g.receipts place }
