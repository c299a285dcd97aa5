-- The lines for what is present: one for each submitted message, and one for each delivery receipt.
use Rattle.std.specs.Prelude.{◌≡◌, ℕ, zero, suc, if◌then◌else◌, Contains, List, [], ◌∷◌, map, filter, Option, Some, None, option_map, option_to_list}
use Rattle.smq_kit.specs.declared.link_key.LinkKey.{LinkKey}
use Rattle.smq_kit.specs.declared.place.Place.{Place}
use Rattle.smq_tally.specs.declared.list.List as l
use Rattle.smq_tally.specs.declared.list.List.TheVariants.{StrayReceipts, AmbiguousReceipts, ExtraReceipts}
use Rattle.smq_tally.specs.declared.list.Listed.{Listed}
use Rattle.smq_tally.specs.declared.outcome.Outcome.{Outcome}
use Rattle.smq_tally.specs.Lists.{listed}
use Rattle.smq_present.specs.join.Lines.{MessageLineValue, ReceiptLineValue}
use Rattle.smq_present.specs.declared.join.lines.DecidingReceipt.{DecidingReceipt}
use Rattle.smq_present.specs.declared.join.lines.ReceiptStanding.{ReceiptStanding}
use Rattle.smq_present.specs.declared.join.lines.ReceiptStanding.TheVariants.{Stray, Deciding, Extra, Noted, Ambiguous}
use Rattle.smq_present.specs.present.Present.{PresentValue}
use Rattle.smq_present.specs.present.Settings.{SettingsValue}
use Rattle.smq_present.specs.join.Keyed.{can_decide}
use Rattle.smq_present.specs.within.Accepted.{accepted_with, number_accepted, decider_of}
use Rattle.smq_present.specs.within.Listings.{stands_at}
use Rattle.smq_present.specs.within.Lists.{receipts_of, submits_of}
use Rattle.smq_present.specs.within.Messages.{SubmittedMessage, accepted_id}
use Rattle.smq_present.specs.within.Outcomes.{fact_among}
use Rattle.smq_present.specs.within.Receipts.{KeyedReceipt, PlacedReceipt, candidates, least_receipt}

-- ---- messages

-- what the line for a message says of the receipt that decides it
abbrev pub deciding_receipt : PlacedReceipt → DecidingReceipt
deciding_receipt r = record { place = r.place; moment = r.moment; centre_delay = r.receipt.centre_delay }

-- the line for a submitted message, under what is set, among these and these receipts
abbrev pub message_line : SettingsValue → List SubmittedMessage → List KeyedReceipt → SubmittedMessage → MessageLineValue
message_line settings submits receipts m = record {
  fact = fact_among settings submits receipts m;
  moment = m.moment;
  number = m.number;
  id = accepted_id m.header m.response;
  response = option_map (λ p. p.offset) m.response;
  receipt = option_map deciding_receipt (decider_of submits receipts m.key);
  key = option_map (λ k. k.key) m.key;
  command = m.header.command;
  source_ton = m.source_ton;
  source = m.source;
}

-- the lines for the submitted messages that are present, in the order of their places
abbrev pub message_lines : PresentValue → List MessageLineValue
message_lines p = map (message_line p.settings (submits_of p) (receipts_of p)) (submits_of p)

-- Among lines is one of a message at this place with this outcome.
abbrev pub HasLineAt : List MessageLineValue → Outcome → Place → Type 0
HasLineAt lines outcome place =
    (line : MessageLineValue) × Contains lines line × (line.fact.place ≡ place) × (line.fact.outcome ≡ outcome)

-- ---- delivery receipts

-- how a delivery receipt stands with whose key so many messages are accepted, by the receipt that decides these, where there is one
abbrev pub standing_by : ℕ → Option PlacedReceipt → PlacedReceipt → ReceiptStanding
standing_by zero decider r = Stray
standing_by (suc zero) decider r =
    if stands_at decider r.place then Deciding else if can_decide r.receipt then Extra else Noted
standing_by (suc (suc n)) decider r = Ambiguous

-- the submitted messages that are accepted with a key
abbrev pub accepted_among : LinkKey → List SubmittedMessage → List SubmittedMessage
accepted_among key submits = filter (accepted_with key) submits

-- the place of the one message that there is, where it is one alone
abbrev pub only_place : List SubmittedMessage → Option Place
only_place [] = None
only_place (m ∷ []) = Some m.place
only_place (m ∷ n ∷ ms) = None

-- the line for a delivery receipt, among these messages and receipts
abbrev pub receipt_line : List SubmittedMessage → List KeyedReceipt → KeyedReceipt → ReceiptLineValue
receipt_line submits receipts e = record {
  link = e.1.link;
  place = e.1.place;
  moment = e.1.moment;
  receipt = e.1.receipt;
  standing = standing_by (number_accepted e.0 submits) (least_receipt (candidates e.0 receipts)) e.1;
  message = only_place (accepted_among e.0 submits);
  key = e.0.key;
  command = e.1.command;
}

-- the lines for the delivery receipts that are present, in the order of their places
abbrev pub receipt_lines : PresentValue → List ReceiptLineValue
receipt_lines p = map (receipt_line (submits_of p) (receipts_of p)) (receipts_of p)

-- ---- lines that name each other

-- Among lines for receipts is that of one which is named: it has its place and moment, decides, and names the message at this place.
pub record HasDecidingLine (lines : List ReceiptLineValue) (message : Place) (named : DecidingReceipt) : Type 0 where
  pub line : ReceiptLineValue
  pub among : Contains lines line
  pub place : line.place ≡ named.place
  pub moment : line.moment ≡ named.moment
  pub decides : line.standing ≡ Deciding
  pub matches : line.message ≡ Some message

-- Among lines for messages is that of the one which the line for a receipt names, and it names the receipt at its place.
pub record HasLineNaming (lines : List MessageLineValue) (receipt : ReceiptLineValue) : Type 0 where
  pub line : MessageLineValue
  pub among : Contains lines line
  pub matches : receipt.message ≡ Some line.fact.place
  pub names : option_map (λ named. named.place) line.receipt ≡ Some receipt.place

-- ---- lists

-- the list of the delivery receipts that stand so, if there is one
abbrev pub list_of : ReceiptStanding → Option l.List
list_of Stray = Some StrayReceipts
list_of Deciding = None
list_of Extra = Some ExtraReceipts
list_of Noted = None
list_of Ambiguous = Some AmbiguousReceipts

-- the receipt of a line in its list, if it has one
abbrev pub listing_of : ReceiptLineValue → List Listed
listing_of line = option_to_list (option_map (λ list. listed list line.place) (list_of line.standing))
