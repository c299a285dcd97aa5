use Rattle.std.proofs.Common.{◌∙◌, ap}
use Rattle.std.specs.FinMap.{get, get-empty, get-insert}
use Rattle.smq_kit.specs.declared.message_id.Key.TheVariants.{Number}
use Rattle.smq_kit.specs.declared.link_key.LinkKey.{LinkKey}
use Rattle.smq_kit.specs.declared.place.Dir.TheVariants.{FromClient}
use Rattle.smq_kit.specs.declared.place.Place.{Place}
use Rattle.smq_kit.specs.Orders.{place_cmp}
use Rattle.smq_kit.proofs.PlaceOrders.{places_total}
use Rattle.smq_group.specs.Matching.{Grouping}
use Rattle.smq_base_tests.proofs.tests.group.submit_comes_and_goes.Goals as goal

submit : Place
submit = record { session = record { 0 = 1 }; dir = FromClient; offset = 0 }

key : LinkKey
key = record { link = record { 0 = 1 }; key = Number 1 }

pub add_submit-requires : goal.add_submit-requires
unfolding submit
add_submit-requires c = record {
  absent = ap (λ (members : Grouping). get members.submits submit) c.requires ∙ get-empty place_cmp submit;
}

pub remove_submit-requires : goal.remove_submit-requires
unfolding submit key
remove_submit-requires c = record {
  there = ap (λ (members : Grouping). get members.submits submit) c.in_ok-came.ensures.ok
      ∙ get-insert places_total _ submit key submit;
}
