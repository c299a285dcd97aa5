-- Facts that are set anew at places, in turn, to what is known there under what is set.
use Rattle.std.specs.Prelude.{◌≡◌, ℕ, List, Some, fold, option_map}
use Rattle.std.specs.FinMap as fin
use Rattle.smq_kit.specs.declared.place.Place.{Place}
use Rattle.smq_kit.specs.Maps.{SameOutside, set_at}
use Rattle.smq_kit.specs.Orders.{place_cmp}
use Rattle.smq_route.specs.Versions.{Versions}
use Rattle.smq_tally.specs.declared.fact.Fact.{Fact}
use Rattle.smq_book.specs.declared.index.index.Index.{Index}
use Rattle.smq_book.specs.edits.Reached.{messages_under}
use Rattle.smq_book.specs.index.Ends.{Windows}
use Rattle.smq_book.specs.index.Held.{IsTraffic, held_by, held_now}
use Rattle.smq_present.specs.present.Settings.{SettingsValue, with_versions}
use Rattle.smq_present.specs.pairing.Traffic.{Message, TrafficValue}
use Rattle.smq_present.specs.join.Circumstances.{lapsed_in, route_in}
use Rattle.smq_present.specs.join.Facts.{facts_of, with_lapse, with_route}

-- facts where those of places are set to those of traffic under what is set
abbrev pub refreshed : SettingsValue → TrafficValue → fin.FinMap place_cmp Fact → List Place → fin.FinMap place_cmp Fact
refreshed z t facts places = fold (λ m q. set_at m q (fin.get (facts_of z t) q)) facts places

-- a fact of a message with its route, and by whether it has lapsed, under what is set
abbrev pub restated : SettingsValue → Message → Fact → Fact
restated z m f = with_route (route_in z.versions m) (with_lapse (lapsed_in z m) f)

-- What is known of each message under what is set is its fact, restated so.
pub record MayRestate (z : SettingsValue) (t : TrafficValue) (facts : fin.FinMap place_cmp Fact) : Type 0 where
  pub each : (q : Place) (m : Message) → fin.get t.messages q ≡ Some m
      → fin.get (facts_of z t) q ≡ option_map (restated z m) (fin.get facts q)

-- An index that held what is set of traffic, but for facts, holds it with those of places set anew by these routes, windows and clock.
abbrev pub Restates : Versions → Windows → ℕ → List Place → Index → Index → Type 0
Restates versions windows clock places old new = (z : SettingsValue) (t : TrafficValue) (facts : fin.FinMap place_cmp Fact)
    → IsTraffic t → z.versions ≡ versions → z.windows ≡ windows → z.clock ≡ clock → MayRestate z t facts
    → held_now old ≡ held_by z t facts → held_now new ≡ held_by z t (refreshed z t facts places)

-- Other versions leave the facts of all messages but those under a prefix.
abbrev pub LeaveOthers : SettingsValue → TrafficValue → List ℕ → Versions → Type 0
LeaveOthers s t prefix versions = SameOutside (fin.keys (messages_under prefix t)) (facts_of s t) (facts_of (with_versions s versions) t)
