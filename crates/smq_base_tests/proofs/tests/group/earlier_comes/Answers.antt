use Rattle.std.proofs.Common.{◌∙◌, ap}
use Rattle.std.specs.Prelude.{Some, option_map}
use Rattle.std.specs.FinMap.{get, get-insert}
use Rattle.smq_kit.specs.declared.message_id.Key.{Key}
use Rattle.smq_kit.proofs.PlaceOrders.{places_total}
use Rattle.smq_group.specs.Groups.{key_on}
use Rattle.smq_group.specs.Known.{centre_at, link_of}
use Rattle.smq_group.specs.Matching.{Grouping, GroupedReceipt}
use Rattle.smq_base_tests.proofs.tests.group.earlier_comes.Goals as goal

pub returns-clause-there : goal.returns-clause-there
returns-clause-there c = ap (λ (members : Grouping). option_map (λ (r : GroupedReceipt). r.key) (get members.receipts (centre_at 18))) c.in_ok-came.ensures.ok
    ∙ ap (option_map (λ (r : GroupedReceipt). r.key)) (get-insert places_total _ (centre_at 18) _ (centre_at 18))
    ∙ ap (λ (key : Key). Some (key_on (link_of 1) key)) c.in_ok-copy_of.ensures
