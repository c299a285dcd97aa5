-- What is stored before facts and listings follow the standings.
use Rattle.std.specs.Prelude.{◌≡◌, ◌||◌, Bool, false, List, Option, Some, None}
use Rattle.std.specs.FinMap as fin
use Rattle.std.specs.FinSet.{FinSet}
use Rattle.std.specs.List.{AllByRecursion}
use Rattle.smq_kit.specs.declared.place.Dir.TheVariants.{FromClient, FromCentre}
use Rattle.smq_kit.specs.declared.place.Place.{Place}
use Rattle.smq_kit.specs.Orders.{place_cmp}
use Rattle.smq_tally.specs.declared.fact.Fact.{Fact}
use Rattle.smq_tally.specs.declared.list.List as l
use Rattle.smq_tally.specs.Lists.{listed, listed_cmp}
use Rattle.smq_group.specs.declared.change.Change.{Change}
use Rattle.smq_group.specs.Matching.{Grouping}
use Rattle.smq_group.specs.Standings.{standing_at}
use Rattle.smq_book.specs.index.Held.{AreOf, IsUnlisted, list_held}
use Rattle.smq_present.specs.join.Circumstances.{route_in}
use Rattle.smq_present.specs.join.Listings.{is_named, is_traffic_list}
use Rattle.smq_present.specs.pairing.Traffic.{Message, ReceivedReceipt, TrafficValue}
use Rattle.smq_present.specs.present.Settings.{SettingsValue}

-- Changes tell how members stand.
abbrev pub AreTold : Grouping → List Change → Type 0
AreTold g changes = AllByRecursion (λ c. standing_at g c.place ≡ Some c.standing) changes

-- whether a list, unless it isn't one of those of receipts, is this one
abbrev pub may_note : l.List → Option l.List → Bool
may_note name list = is_traffic_list name || is_named name list

-- No list of receipts but this one, if any, notes a place.
pub record IsInNoOther (notes : FinSet listed_cmp) (place : Place) (list : Option l.List) : Type 0 where
  pub none : (name : l.List) → may_note name list ≡ false → fin.get notes (listed name place) ≡ None

-- notes where a place is noted in a list, if there is one
abbrev pub with_note : FinSet listed_cmp → Place → Option l.List → FinSet listed_cmp
with_note notes place None = notes
with_note notes place (Some list) = fin.insert notes (listed list place) tt

-- Members are those of traffic, and facts and notes may be those of other standings: messages and facts stand in the client's
-- direction and receipts in the centre's, the fact of a message has its route, no list of receipts notes a place of the
-- client, and none but its own notes a place that is new.
pub record MayFollow (s : SettingsValue) (t : TrafficValue) (g : Grouping) (new : Option Place) (facts : fin.FinMap place_cmp Fact)
    (notes : FinSet listed_cmp) : Type 0 where
  pub are : AreOf s t g
  pub messages : (place : Place) (m : Message) → fin.get t.messages place ≡ Some m → place.dir ≡ FromClient
  pub receipts : (place : Place) (r : ReceivedReceipt) → fin.get t.receipts place ≡ Some r → place.dir ≡ FromCentre
  pub known : (place : Place) (f : Fact) → fin.get facts place ≡ Some f → place.dir ≡ FromClient
  pub routed : (place : Place) (m : Message) (f : Fact) → fin.get t.messages place ≡ Some m → fin.get facts place ≡ Some f
      → f.route ≡ route_in s.versions m
  pub unlisted : (place : Place) → place.dir ≡ FromClient → IsUnlisted notes place
  pub alone : (place : Place) → new ≡ Some place → IsInNoOther notes place (list_held g place)
