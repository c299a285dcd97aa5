-- Which receipts decide which submitted messages.
use Rattle.std.specs.Prelude.{ℕ, ◌==◌, Bool, List, count_by, if◌then◌else◌, Option, Some, None, option_to_list}
use Rattle.std.specs.List.{list_any}
use Rattle.smq_kit.specs.declared.link_key.LinkKey.{LinkKey}
use Rattle.smq_kit.specs.LinkKeys.{same_key}
use Rattle.smq_present.specs.within.Messages.{SubmittedMessage}
use Rattle.smq_present.specs.within.Receipts.{PlacedReceipt, KeyedReceipt, candidates, least_receipt, earlier}

-- a submitted message is accepted with this key
abbrev pub accepted_with : LinkKey → SubmittedMessage → Bool
accepted_with key s = list_any (same_key key) (option_to_list s.key)

-- how many submitted messages are accepted with a key
abbrev pub number_accepted : LinkKey → List SubmittedMessage → ℕ
number_accepted key submits = count_by (accepted_with key) submits

-- a key is single where one submitted message is accepted with it and no other
abbrev pub is_single : List SubmittedMessage → LinkKey → Bool
is_single submits key = number_accepted key submits == 1

-- the deciding receipt of a submitted message whose key is single: the least that can decide
abbrev pub decider_of : List SubmittedMessage → List KeyedReceipt → Option LinkKey → Option PlacedReceipt
decider_of submits receipts None = None
decider_of submits receipts (Some key) =
    if is_single submits key then least_receipt (candidates key receipts) else None

-- the earlier of a receipt that may be there and another
abbrev pub decider_with : Option PlacedReceipt → PlacedReceipt → PlacedReceipt
decider_with None receipt = receipt
decider_with (Some decider) receipt = earlier decider receipt
