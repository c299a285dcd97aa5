use Rattle.std.specs.List.{flat_map}
use Rattle.std.specs.FinMap.{entries, entries_sorted}
use Rattle.smq_kit.proofs.MapLemmas.{entries-from_entries}
use Rattle.smq_kit.proofs.PlaceOrders.{places_total, places_exact}
use Rattle.smq_present.specs.pairing.Traffic.{session_messages, session_receipts}
use Rattle.smq_present.proofs.lemmas.pairing.PlacesRise.{messages-sorted, receipts-sorted}
use Rattle.smq_present.proofs.laws.pairing.each_message_has_its_place.Goals as goal

pub returns-clause-messages : goal.returns-clause-messages
returns-clause-messages c = λ sessions. entries-from_entries places_total places_exact
    (flat_map session_messages (entries sessions)) (messages-sorted (entries sessions) (entries_sorted sessions))

pub returns-clause-receipts : goal.returns-clause-receipts
returns-clause-receipts c = λ sessions. entries-from_entries places_total places_exact
    (flat_map session_receipts (entries sessions)) (receipts-sorted (entries sessions) (entries_sorted sessions))
