-- The circumstances of a message: all that decides what became of it, beside what it says itself.
use Rattle.std.specs.Prelude.{ℕ, ◌+◌, nat_le, Bool, List, Option, option_map, option_and_then}
use Rattle.std.specs.FinMap as map
use Rattle.smq_kit.specs.declared.names.LinkId.{LinkId}
use Rattle.smq_kit.specs.declared.names.RouteId.{RouteId}
use Rattle.smq_route.specs.Versions.{Versions, route_at}
use Rattle.smq_present.specs.present.Settings.{SettingsValue, window_in}
use Rattle.smq_present.specs.pairing.Traffic.{Message, ReceivedReceipt, TrafficValue}
use Rattle.smq_group.specs.Matching.{Grouping, Standing, submit_standing, decided_by}
use Rattle.smq_present.specs.join.Keyed.{accepted_key, grouping_of}

-- how it stands where it is accepted, the receipt that decides it where there is one, the route and network of its number
-- where it has them, and whether the clock has reached the end of its window
pub record Circumstances : Type 0 where
  pub standing : Option Standing
  pub decider : Option ReceivedReceipt
  pub route : Option (RouteId × List ℕ)
  pub lapsed : Bool

-- the circumstances of a message that stands so, by its deciding receipt, its route and network, and whether it has lapsed
abbrev pub circumstances_by : Option Standing → Option ReceivedReceipt → Option (RouteId × List ℕ) → Bool → Circumstances
circumstances_by standing decider route lapsed =
    record { standing = standing; decider = decider; route = route; lapsed = lapsed }

-- how a message stands: not at all where it isn't accepted
abbrev pub standing_in : Grouping → SettingsValue → Message → Option Standing
standing_in g s m = option_map (submit_standing g) (accepted_key s m)

-- the receipt at the place that decides
abbrev pub decider_in : TrafficValue → Option Standing → Option ReceivedReceipt
decider_in t standing = option_and_then (λ place. map.get t.receipts place) (option_and_then decided_by standing)

-- the route and network that a message's number has at its moment, if it has a number
abbrev pub route_in : Versions → Message → Option (RouteId × List ℕ)
route_in versions m = option_and_then (λ number. route_at versions number m.moment) m.number

-- how long a message of a link waits for its receipt before it lapses, in ms
abbrev pub window_of : SettingsValue → LinkId → ℕ
window_of s link = window_in s.windows link

-- whether the window of a message of a moment has ended by a clock: this is at its end, or past it
abbrev pub has_ended : ℕ → ℕ → ℕ → Bool
has_ended clock moment window = nat_le (moment + window) clock

-- the window of a message has ended by the clock
abbrev pub lapsed_in : SettingsValue → Message → Bool
lapsed_in s m = has_ended s.clock m.moment (window_of s m.link)

-- the circumstances of a message
abbrev pub circumstances : SettingsValue → TrafficValue → Message → Circumstances
circumstances s t m = record {
  standing = standing_in (grouping_of s t) s m;
  decider = decider_in t (standing_in (grouping_of s t) s m);
  route = route_in s.versions m;
  lapsed = lapsed_in s m;
}
