use Rattle.std.proofs.Common.{◌∙◌, ap}
use Rattle.std.specs.Prelude.{option_map}
use Rattle.std.specs.FinMap.{get}
use Rattle.smq_group.specs.Known.{centre_at}
use Rattle.smq_group.specs.Matching.{Grouping, GroupedReceipt}
use Rattle.smq_base_tests.proofs.tests.group.earlier_is_undone.Goals as goal

-- what undo brings back is what was settled, which is what the receipt and its submit left
pub remove_receipt-requires : goal.remove_receipt-requires
remove_receipt-requires c = record {
  there = ap (λ (members : Grouping). option_map (λ (r : GroupedReceipt). r.key) (get members.receipts (centre_at 0)))
      (c.undo.ensures.members ∙ c.earlier_comes.ensures.settled ∙ c.settle.ensures.settled)
      ∙ c.in_ok-came.ensures.there;
}
