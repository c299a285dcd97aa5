-- Messages and delivery receipts with the keys of their ids, under what is set.
use Rattle.std.specs.Prelude.{ℕ, ◌==◌, ◌&&◌, not, Bool, List, if◌then◌else◌, Option, Some, None, option_map}
use Rattle.smq_kit.specs.Maps.{chosen}
use Rattle.smq_receipt.specs.States.{row_of}
use Rattle.smq_receipt.specs.declared.reading.Receipt.{Receipt}
use Rattle.smq_kit.specs.declared.link_key.LinkKey.{LinkKey}
use Rattle.smq_present.specs.present.Settings.{SettingsValue, forms_of}
use Rattle.smq_present.specs.pairing.Traffic.{Response, Message, ReceivedReceipt, TrafficValue}
use Rattle.smq_kit.specs.LinkKeys.{link_key}
use Rattle.smq_group.specs.Matching.{GroupedReceipt, Grouping}

-- the id with which a message is accepted: its response agrees, has status 0 and gives one
abbrev pub accepted_id : Option Response → Option (List ℕ)
accepted_id None = None
accepted_id (Some response) = if response.agrees && response.status == 0 then response.id else None

-- the key of that id, under the link's form of responses
abbrev pub accepted_key : SettingsValue → Message → Option LinkKey
accepted_key s m = option_map (link_key m.link (forms_of s m.link).response) (accepted_id m.response)

-- the key of a receipt's id, under the link's form of receipts
abbrev pub receipt_key : SettingsValue → ReceivedReceipt → LinkKey
receipt_key s r = link_key r.link (forms_of s r.link).receipt r.receipt.id

-- a receipt can decide where its state is final and it isn't an intermediate notification
abbrev pub can_decide : Receipt → Bool
can_decide r = (row_of r.state).final && not r.interim

-- a receipt with its key
abbrev pub keyed_receipt : SettingsValue → ReceivedReceipt → GroupedReceipt
keyed_receipt s r = record { key = receipt_key s r; moment = r.moment; decides = can_decide r.receipt }

-- the accepted messages and the receipts of traffic, with their keys
abbrev pub grouping_of : SettingsValue → TrafficValue → Grouping
grouping_of s t = record {
  submits = chosen (λ place m. accepted_key s m) t.messages;
  receipts = chosen (λ place r. Some (keyed_receipt s r)) t.receipts;
}
