-- What is known of each message.
use Rattle.std.specs.Prelude.{ℕ, Bool, List, if◌then◌else◌, Option, Some}
use Rattle.std.specs.FinMap as map
use Rattle.smq_kit.specs.declared.names.RouteId.{RouteId}
use Rattle.smq_kit.specs.declared.place.Place.{Place}
use Rattle.smq_kit.specs.Maps.{chosen}
use Rattle.smq_kit.specs.Orders.{place_cmp}
use Rattle.smq_tally.specs.declared.fact.Fact.{Fact}
use Rattle.smq_tally.specs.declared.outcome.Outcome.{Outcome}
use Rattle.smq_tally.specs.declared.outcome.Outcome.TheVariants as o
use Rattle.smq_present.specs.present.Settings.{SettingsValue}
use Rattle.smq_present.specs.pairing.Traffic.{Message, TrafficValue}
use Rattle.smq_present.specs.join.Circumstances.{Circumstances, circumstances}
use Rattle.smq_present.specs.join.Outcomes.{outcome_by, error_by, link_delay_by, centre_delay_by}

-- what is known of a message at a place, in its circumstances
abbrev pub fact_in_circumstances : Place → Message → Circumstances → Fact
fact_in_circumstances place m c = record {
  place = place;
  link = m.link;
  route = c.route;
  outcome = outcome_by m c;
  error = error_by (outcome_by m c) m.response c.decider;
  link_delay = link_delay_by (outcome_by m c) m.moment c.decider;
  centre_delay = centre_delay_by (outcome_by m c) c.decider;
}

-- a fact with this route and network, or neither
abbrev pub with_route : Option (RouteId × List ℕ) → Fact → Fact
with_route route f = record f { route = route }

-- what becomes of an open or lapsed message by whether it has lapsed; any other outcome stays
abbrev pub by_lapse : Bool → Outcome → Outcome
by_lapse lapsed o.Open = if lapsed then o.Lapsed else o.Open
by_lapse lapsed o.Lapsed = if lapsed then o.Lapsed else o.Open
by_lapse lapsed outcome = outcome

-- a fact with that outcome
abbrev pub with_lapse : Bool → Fact → Fact
with_lapse lapsed f = record f { outcome = by_lapse lapsed f.outcome }

-- what is known of each message, by place
abbrev pub facts_of : SettingsValue → TrafficValue → map.FinMap place_cmp Fact
facts_of s t = chosen (λ place m. Some (fact_in_circumstances place m (circumstances s t m))) t.messages
