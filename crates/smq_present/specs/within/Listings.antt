-- The lists of the delivery receipts of a list, stated apart from the definition by place.
use Rattle.std.specs.Prelude.{ℕ, zero, suc, Bool, true, false, ◌&&◌, not, List, Option, Some, None, option_map, option_to_list}
use Rattle.std.specs.Ordering.{eq_by_cmp}
use Rattle.smq_kit.specs.Maps.{same_option}
use Rattle.smq_kit.specs.Orders.{place_cmp}
use Rattle.smq_kit.specs.declared.place.Place.{Place}
use Rattle.smq_tally.specs.declared.list.List as l
use Rattle.smq_tally.specs.declared.list.List.TheVariants.{StrayReceipts, AmbiguousReceipts, ExtraReceipts}
use Rattle.smq_tally.specs.declared.list.Listed.{Listed}
use Rattle.smq_tally.specs.Lists.{listed}
use Rattle.smq_present.specs.join.Keyed.{can_decide}
use Rattle.smq_present.specs.within.Accepted.{number_accepted}
use Rattle.smq_present.specs.within.Messages.{SubmittedMessage}
use Rattle.smq_present.specs.within.Receipts.{PlacedReceipt, KeyedReceipt, candidates, least_receipt}

-- a receipt stands at the place of one that may be there
abbrev pub stands_at : Option PlacedReceipt → Place → Bool
stands_at receipt place = same_option (eq_by_cmp place_cmp) (option_map (λ r. r.place) receipt) (Some place)

-- a receipt of a message is extra where it can decide and isn't the one that does
abbrev pub is_extra : Option PlacedReceipt → PlacedReceipt → Bool
is_extra decider receipt = can_decide receipt.receipt && not (stands_at decider receipt.place)

-- the list of a receipt with whose key so many messages are accepted, by whether it would be extra, if it has one
abbrev pub list_by : ℕ → Bool → Option l.List
list_by zero extra = Some StrayReceipts
list_by (suc zero) true = Some ExtraReceipts
list_by (suc zero) false = None
list_by (suc (suc n)) extra = Some AmbiguousReceipts

-- a receipt in its list, if it has one, by the number of messages with its key and by the receipt that decides these
abbrev pub note_by : ℕ → Option PlacedReceipt → KeyedReceipt → List Listed
note_by number decider e =
    option_to_list (option_map (λ list. listed list e.1.place) (list_by number (is_extra decider e.1)))

-- a receipt in its list, if it has one, among all messages and receipts
abbrev pub note_of : List SubmittedMessage → List KeyedReceipt → KeyedReceipt → List Listed
note_of submits receipts e = note_by (number_accepted e.0 submits) (least_receipt (candidates e.0 receipts)) e
