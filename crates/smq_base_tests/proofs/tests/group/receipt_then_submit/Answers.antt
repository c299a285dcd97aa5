use Rattle.std.proofs.Common.{◌∙◌, ap}
use Rattle.std.specs.Prelude.{Some, option_map}
use Rattle.std.specs.FinMap.{get, get-empty, get-insert}
use Rattle.smq_kit.specs.declared.message_id.Key.{Key}
use Rattle.smq_kit.specs.Orders.{place_cmp}
use Rattle.smq_kit.proofs.PlaceOrders.{places_total}
use Rattle.smq_group.specs.Groups.{key_on}
use Rattle.smq_group.specs.Known.{centre_at, client_at, link_of}
use Rattle.smq_group.specs.Matching.{Grouping, GroupedReceipt}
use Rattle.smq_base_tests.proofs.tests.group.receipt_then_submit.Goals as goal

pub add_receipt-requires : goal.add_receipt-requires
add_receipt-requires c = record {
  absent = ap (λ (members : Grouping). get members.receipts (centre_at 0)) c.requires ∙ get-empty place_cmp (centre_at 0);
}

pub add_submit-requires : goal.add_submit-requires
add_submit-requires c = record {
  absent = ap (λ (members : Grouping). get members.submits (client_at 0)) c.in_ok-first.ensures.ok
      ∙ ap (λ (members : Grouping). get members.submits (client_at 0)) c.requires ∙ get-empty place_cmp (client_at 0);
}

pub returns-clause-there : goal.returns-clause-there
returns-clause-there c = ap (λ (members : Grouping). option_map (λ (r : GroupedReceipt). r.key) (get members.receipts (centre_at 0))) c.in_ok-second.ensures.ok
    ∙ ap (λ (members : Grouping). option_map (λ (r : GroupedReceipt). r.key) (get members.receipts (centre_at 0))) c.in_ok-first.ensures.ok
    ∙ ap (option_map (λ (r : GroupedReceipt). r.key)) (get-insert places_total _ (centre_at 0) _ (centre_at 0))
    ∙ ap (λ (key : Key). Some (key_on (link_of 1) key)) c.in_ok-copy_of.ensures

pub returns-clause-absent : goal.returns-clause-absent
returns-clause-absent c = ap (λ (members : Grouping). get members.receipts (centre_at 18)) c.in_ok-second.ensures.ok
    ∙ ap (λ (members : Grouping). get members.receipts (centre_at 18)) c.in_ok-first.ensures.ok
    ∙ get-insert places_total _ (centre_at 0) _ (centre_at 18)
    ∙ ap (λ (members : Grouping). get members.receipts (centre_at 18)) c.requires ∙ get-empty place_cmp (centre_at 18)
