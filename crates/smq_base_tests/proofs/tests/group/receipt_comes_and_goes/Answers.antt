use Rattle.std.proofs.Common.{◌∙◌, ap, true, ℕ}
use Rattle.std.specs.Prelude.{option_map}
use Rattle.std.specs.FinMap.{get, get-empty, get-insert}
use Rattle.smq_kit.specs.declared.message_id.Key.TheVariants.{Number}
use Rattle.smq_kit.specs.declared.place.Dir.TheVariants.{FromCentre}
use Rattle.smq_kit.specs.declared.place.Place.{Place}
use Rattle.smq_kit.specs.Orders.{place_cmp}
use Rattle.smq_kit.proofs.PlaceOrders.{places_total}
use Rattle.smq_group.specs.Matching.{Grouping, GroupedReceipt}
use Rattle.smq_base_tests.proofs.tests.group.receipt_comes_and_goes.Goals as goal

receipt : Place
receipt = record { session = record { 0 = 1 }; dir = FromCentre; offset = 0 }

grouped : ℕ → GroupedReceipt
grouped moment = record { key = record { link = record { 0 = 1 }; key = Number 1 }; moment = moment; decides = true }

pub add_receipt-requires : goal.add_receipt-requires
unfolding receipt
add_receipt-requires c = record {
  absent = ap (λ (members : Grouping). get members.receipts receipt) c.requires ∙ get-empty place_cmp receipt;
}

pub remove_receipt-requires : goal.remove_receipt-requires
unfolding receipt grouped
remove_receipt-requires c = record {
  there = ap (λ (members : Grouping). option_map (λ (r : GroupedReceipt). r.key) (get members.receipts receipt)) c.in_ok-came.ensures.ok
      ∙ ap (option_map (λ (r : GroupedReceipt). r.key)) (get-insert places_total _ receipt (grouped c.epoch.result) receipt);
}
