-- The messages whose receipts are due, the open and the lapsed ones, by the ends of their windows: so a clock finds those whose
-- windows end by it.
use Rattle.std.specs.Prelude.{◌+◌, ◌&&◌, nat_le, ℕ, Bool, List, fold, map, filter, if◌then◌else◌, Option, Some, None}
use Rattle.std.specs.declared.cmp.Ordering.{Ordering}
use Rattle.std.specs.Ordering.{nat_cmp, ordering_then}
use Rattle.std.specs.FinMap as fin
use Rattle.std.specs.FinSet.{FinSet}
use Rattle.smq_kit.specs.declared.place.Place.{Place}
use Rattle.smq_kit.specs.Orders.{place_cmp}
use Rattle.smq_tally.specs.declared.fact.Fact.{Fact}
use Rattle.smq_book.specs.declared.index.due_at.DueAt.{DueAt}
use Rattle.smq_book.specs.declared.index.end_at.EndAt.{EndAt}
use Rattle.smq_present.specs.present.Settings.{SettingsValue, window_in}
use Rattle.smq_present.specs.pairing.Traffic.{Message, TrafficValue}
use Rattle.smq_present.specs.join.Facts.{facts_of}
use Rattle.smq_book.specs.index.Due.{is_due_fact}
use Rattle.smq_book.specs.index.PlacedKeys.{keys_made}

-- an end at a place
abbrev pub end_at : ℕ → Place → EndAt
end_at end place = record { end = end; place = place }

-- by the end, then by the place
abbrev pub end_cmp : EndAt → EndAt → Ordering
end_cmp a b = ordering_then (nat_cmp a.end b.end) (place_cmp a.place b.place)

-- the windows of links
abbrev pub Windows : Type 0
Windows = fin.FinMap nat_cmp ℕ

-- the end of the window of a message at its place, where its fact says that its receipt is due
abbrev pub end_by_fact : Windows → fin.FinMap place_cmp Fact → Place → Message → Option EndAt
end_by_fact windows facts place m =
    if is_due_fact (fin.get facts place) then Some (end_at (m.moment + window_in windows m.link) place) else None

-- those of the messages whose facts say so
abbrev pub ends_by : Windows → fin.FinMap place_cmp Message → fin.FinMap place_cmp Fact → FinSet end_cmp
ends_by windows messages facts = keys_made (end_by_fact windows facts) messages

-- those of traffic under what is set
abbrev pub ends_of : SettingsValue → TrafficValue → FinSet end_cmp
ends_of s t = ends_by s.windows t.messages (facts_of s t)

-- whether an end comes after a clock and not after another
abbrev pub is_between : ℕ → ℕ → EndAt → Bool
is_between from clock k = nat_le (from + 1) k.end && nat_le k.end clock

-- the places of those, by end, then by place
abbrev pub places_ending : ℕ → ℕ → FinSet end_cmp → List Place
places_ending from clock ends = map (λ k. k.place) (filter (is_between from clock) (fin.keys ends))

-- ends without those of messages that waited so long, and with those of messages that wait so long
abbrev pub ends_taken : ℕ → FinSet end_cmp → List DueAt → FinSet end_cmp
ends_taken window ends keys = fold (λ e k. fin.remove e (end_at (k.moment + window) k.place)) ends keys

abbrev pub ends_put : ℕ → FinSet end_cmp → List DueAt → FinSet end_cmp
ends_put window ends keys = fold (λ e k. fin.insert e (end_at (k.moment + window) k.place) tt) ends keys
