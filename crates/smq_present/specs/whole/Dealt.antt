-- Traffic that is dealt to two parts by its places, and what keeps the figures of the parts those of the whole.
use Rattle.std.specs.Prelude.{◌≡◌, ◌⊎◌, not, Bool, Some}
use Rattle.std.specs.FinMap as map
use Rattle.smq_kit.specs.declared.link_key.LinkKey.{LinkKey}
use Rattle.smq_kit.specs.declared.place.Place.{Place}
use Rattle.smq_tally.specs.Tables.{TablesValue, tables_of}
use Rattle.smq_present.specs.present.Settings.{SettingsValue}
use Rattle.smq_present.specs.pairing.Traffic.{Message, ReceivedReceipt, TrafficValue}
use Rattle.smq_present.specs.join.Facts.{facts_of}
use Rattle.smq_present.specs.join.Keyed.{accepted_key, receipt_key}
use Rattle.smq_present.specs.join.Listings.{notes_of}

-- the tables of traffic, under what is set
abbrev pub tables_from : SettingsValue → TrafficValue → TablesValue
tables_from s t = tables_of (facts_of s t) (notes_of s t)

-- the traffic of the places that a test takes: its messages, its delivery receipts and the places that need a look
abbrev pub dealt : (Place → Bool) → TrafficValue → TrafficValue
dealt here t = record {
  messages = map.retain_keys t.messages here;
  receipts = map.retain_keys t.receipts here;
  notes = map.retain_keys t.notes (λ note. here note.place);
}

-- the places that a test doesn't take
abbrev pub other_places : (Place → Bool) → Place → Bool
other_places here place = not (here place)

-- The message at a place is accepted with a key.
pub record IsAcceptedWith (s : SettingsValue) (t : TrafficValue) (key : LinkKey) (place : Place) : Type 0 where
  pub message : Message
  pub stands : map.get t.messages place ≡ Some message
  pub accepted : accepted_key s message ≡ Some key

-- The delivery receipt at a place has a key.
pub record IsReceivedWith (s : SettingsValue) (t : TrafficValue) (key : LinkKey) (place : Place) : Type 0 where
  pub receipt : ReceivedReceipt
  pub stands : map.get t.receipts place ≡ Some receipt
  pub received : receipt_key s receipt ≡ key

-- The message at a place is accepted with a key, or the delivery receipt there has it.
abbrev pub HasKey : SettingsValue → TrafficValue → LinkKey → Place → Type 0
HasKey s t key place = IsAcceptedWith s t key place ⊎ IsReceivedWith s t key place

-- A test takes all places of a key or none: no accepted message or delivery receipt is parted from another with its key.
abbrev pub KeepsKeysTogether : SettingsValue → TrafficValue → (Place → Bool) → Type 0
KeepsKeysTogether s t here =
    (key : LinkKey) (one other : Place) → HasKey s t key one → HasKey s t key other → here one ≡ here other
