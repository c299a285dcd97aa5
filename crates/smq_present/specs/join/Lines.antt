-- What lines for messages and delivery receipts say, without where it lies in memory.
use Rattle.std.specs.Prelude.{ℕ, List, Option, codes}
use Rattle.smq_kit.specs.declared.message_id.Key.{Key}
use Rattle.smq_kit.specs.declared.names.LinkId.{LinkId}
use Rattle.smq_kit.specs.declared.place.Place.{Place}
use Rattle.smq_receipt.specs.declared.reading.Receipt.{Receipt}
use Rattle.smq_tally.specs.declared.fact.Fact.{Fact}
use Rattle.smq_present.specs.declared.join.lines.DecidingReceipt.{DecidingReceipt}
use Rattle.smq_present.specs.declared.join.lines.ReceiptStanding.{ReceiptStanding}
use Rattle.smq_present.specs.declared.join.lines.ReceiptStanding.TheVariants as r

-- what a line for a message says: what is known of it, when it came in ms, its number, the id with which it is accepted, the
-- offset of its response, the receipt that decides it, the key of its id, its command_id, and the address that it comes from
pub record MessageLineValue : Type 0 where
  pub fact : Fact
  pub moment : ℕ
  pub number : Option (List ℕ)
  pub id : Option (List ℕ)
  pub response : Option ℕ
  pub receipt : Option DecidingReceipt
  pub key : Option Key
  pub command : ℕ
  pub source_ton : ℕ
  pub source : Option (List ℕ)

-- what a line for a delivery receipt says: its link, its place, when it came in ms, what it says, how it stands to messages,
-- the message that it matches, the key of its id, and its command_id
pub record ReceiptLineValue : Type 0 where
  pub link : LinkId
  pub place : Place
  pub moment : ℕ
  pub receipt : Receipt
  pub standing : ReceiptStanding
  pub message : Option Place
  pub key : Key
  pub command : ℕ

-- the name of a standing
abbrev pub standing_name : ReceiptStanding → List ℕ
standing_name r.Stray = codes "stray"
standing_name r.Deciding = codes "deciding"
standing_name r.Extra = codes "extra"
standing_name r.Noted = codes "noted"
standing_name r.Ambiguous = codes "ambiguous"
