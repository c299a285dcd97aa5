-- What is known of the submitted messages of a list: the fact of the message that each is, in the circumstances that lists
-- find it in. What becomes of it there is in specs/join alone.
use Rattle.std.specs.Prelude.{ℕ, Bool, List, map, if◌then◌else◌, Option, option_map}
use Rattle.smq_kit.specs.declared.link_key.LinkKey.{LinkKey}
use Rattle.smq_kit.specs.declared.names.RouteId.{RouteId}
use Rattle.smq_tally.specs.declared.fact.Fact.{Fact}
use Rattle.smq_present.specs.present.Settings.{SettingsValue}
use Rattle.smq_present.specs.pairing.Traffic.{Message, ReceivedReceipt, response_in}
use Rattle.smq_group.specs.Matching.{Standing, Single, Shared}
use Rattle.smq_present.specs.join.Circumstances.{Circumstances, route_in, lapsed_in}
use Rattle.smq_present.specs.join.Facts.{fact_in_circumstances}
use Rattle.smq_present.specs.within.Messages.{SubmittedMessage}
use Rattle.smq_present.specs.within.Receipts.{PlacedReceipt, KeyedReceipt, candidates, least_receipt}
use Rattle.smq_present.specs.within.Accepted.{is_single, decider_of}

-- the message that a submitted message is
abbrev pub message_from : SubmittedMessage → Message
message_from m = record {
  link = m.link;
  moment = m.moment;
  number = m.number;
  asks_receipt = m.asks_receipt;
  response = option_map (response_in m.header) m.response;
}

-- the delivery receipt that stands at a place
abbrev pub received : PlacedReceipt → ReceivedReceipt
received r = record { link = r.link; moment = r.moment; receipt = r.receipt }

-- how the messages stand that are accepted with a key
abbrev pub standing_of : List SubmittedMessage → List KeyedReceipt → LinkKey → Standing
standing_of submits receipts key =
    if is_single submits key then Single (option_map (λ r. r.place) (least_receipt (candidates key receipts))) else Shared

-- the circumstances of a message that stands so, by its deciding receipt, its route and network, and whether it has lapsed
abbrev pub circumstances_by : Option Standing → Option PlacedReceipt → Option (RouteId × List ℕ) → Bool → Circumstances
circumstances_by standing decider route lapsed =
    record { standing = standing; decider = option_map received decider; route = route; lapsed = lapsed }

-- the circumstances of a submitted message, under what is set, among all that were submitted and all receipts
abbrev pub circumstances_of : SettingsValue → List SubmittedMessage → List KeyedReceipt → SubmittedMessage → Circumstances
circumstances_of settings submits receipts m =
    circumstances_by (option_map (standing_of submits receipts) m.key) (decider_of submits receipts m.key)
    (route_in settings.versions (message_from m)) (lapsed_in settings (message_from m))

-- what is known of a submitted message, among these and these receipts
abbrev pub fact_among : SettingsValue → List SubmittedMessage → List KeyedReceipt → SubmittedMessage → Fact
fact_among settings submits receipts m =
    fact_in_circumstances m.place (message_from m) (circumstances_of settings submits receipts m)

-- what is known of these submitted messages, under what is set, where these are the receipts
abbrev pub facts_among : SettingsValue → List SubmittedMessage → List KeyedReceipt → List Fact
facts_among settings submits receipts = map (fact_among settings submits receipts) submits
