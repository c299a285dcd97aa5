-- The messages whose receipts are due, the open and the lapsed ones, by link, then by moment: so a clock finds those whose windows
-- end by it, and a window those of its link.
use Rattle.std.specs.Prelude.{◌==◌, ℕ, Bool, false, List, map, filter, if◌then◌else◌, Option, Some, None, option_map, unwrap_or}
use Rattle.std.specs.declared.cmp.Ordering.{Ordering}
use Rattle.std.specs.Ordering.{nat_cmp, ordering_then}
use Rattle.std.specs.FinMap as fin
use Rattle.std.specs.FinSet.{FinSet}
use Rattle.smq_kit.specs.declared.names.LinkId.{LinkId}
use Rattle.smq_kit.specs.declared.place.Place.{Place}
use Rattle.smq_kit.specs.Orders.{place_cmp}
use Rattle.smq_tally.specs.declared.fact.Fact.{Fact}
use Rattle.smq_book.specs.declared.index.due_at.DueAt.{DueAt}
use Rattle.smq_present.specs.present.Settings.{SettingsValue}
use Rattle.smq_present.specs.pairing.Traffic.{Message, TrafficValue}
use Rattle.smq_present.specs.join.Facts.{facts_of}
use Rattle.smq_book.specs.edits.Reached.{is_due}
use Rattle.smq_book.specs.index.PlacedKeys.{keys_made}

-- a moment of a link at a place
abbrev pub due_at : LinkId → ℕ → Place → DueAt
due_at link moment place = record { link = link; moment = moment; place = place }

-- by the link, then by the moment, then by the place
abbrev pub due_cmp : DueAt → DueAt → Ordering
due_cmp a b = ordering_then (nat_cmp a.link.0 b.link.0) (ordering_then (nat_cmp a.moment b.moment) (place_cmp a.place b.place))

-- whether there is a fact and it is that of a message whose receipt is due
abbrev pub is_due_fact : Option Fact → Bool
is_due_fact fact = unwrap_or (option_map (λ f. is_due f.outcome) fact) false

-- the link and the moment of a message at its place, where its fact says that its receipt is due
abbrev pub due_by_fact : fin.FinMap place_cmp Fact → Place → Message → Option DueAt
due_by_fact facts place m = if is_due_fact (fin.get facts place) then Some (due_at m.link m.moment place) else None

-- those of the messages whose facts say so
abbrev pub due_in : fin.FinMap place_cmp Message → fin.FinMap place_cmp Fact → FinSet due_cmp
due_in messages facts = keys_made (due_by_fact facts) messages

-- those of traffic under what is set
abbrev pub due_of : SettingsValue → TrafficValue → FinSet due_cmp
due_of s t = due_in t.messages (facts_of s t)

-- those of a link, by moment, then by place
abbrev pub keys_on : LinkId → FinSet due_cmp → List DueAt
keys_on link due = filter (λ k. k.link.0 == link.0) (fin.keys due)

-- their places
abbrev pub places_due_on : LinkId → FinSet due_cmp → List Place
places_due_on link due = map (λ k. k.place) (keys_on link due)
