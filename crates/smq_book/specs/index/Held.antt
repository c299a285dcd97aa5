-- What an index holds, by place.
use Rattle.std.specs.Prelude.{◌≡◌, ⊤, Bool, true, false, if◌then◌else◌, List, [], ◌∷◌, fold, Option, Some, None, option_and_then}
use Rattle.std.specs.FinMap as fin
use Rattle.std.specs.FinSet.{FinSet}
use Rattle.smq_kit.specs.declared.place.Dir.TheVariants.{FromClient, FromCentre}
use Rattle.smq_kit.specs.declared.place.Place.{Place}
use Rattle.smq_kit.specs.Maps.{chosen, patched, set_at}
use Rattle.smq_kit.specs.Orders.{place_cmp}
use Rattle.smq_tally.specs.Lists.{listed, listed_cmp}
use Rattle.smq_tally.specs.declared.list.List as l
use Rattle.smq_group.specs.declared.change.Change.{Change}
use Rattle.smq_tally.specs.declared.fact.Fact.{Fact}
use Rattle.smq_group.specs.declared.change.Standing as told
use Rattle.smq_group.specs.declared.change.Standing.TheVariants as t
use Rattle.smq_group.specs.Matching.{Grouping, receipt_standing}
use Rattle.smq_route.specs.Numbers.{number_cmp}
use Rattle.smq_book.specs.declared.index.due_at.DueAt.{DueAt}
use Rattle.smq_book.specs.declared.index.end_at.EndAt.{EndAt}
use Rattle.smq_book.specs.index.Due.{due_cmp, due_in, due_of}
use Rattle.smq_book.specs.index.Ends.{end_cmp, ends_by, ends_of}
use Rattle.smq_book.specs.index.Numbered.{numbers_of}
use Rattle.smq_present.specs.present.Settings.{SettingsValue}
use Rattle.smq_book.specs.declared.index.index.Index.{Index}
use Rattle.smq_present.specs.pairing.Traffic.{Message, ReceivedReceipt, TrafficValue}
use Rattle.smq_present.specs.join.Facts.{facts_of}
use Rattle.smq_present.specs.join.Keyed.{grouping_of}
use Rattle.smq_book.specs.edits.Told.{list_told}
use Rattle.smq_present.specs.join.Listings.{is_named, is_traffic_list, list_of_standing, notes_of, receipt_listings}
use Rattle.smq_present.specs.join.Moves.{Move, PutMessage, TakeMessage, PutReceipt, TakeReceipt, PutNote, TakeNote}

-- messages and receipts that are stored as finite maps
abbrev pub messages_in : List (Place × Message) → fin.FinMap place_cmp Message
messages_in es = fin.from_entries es

abbrev pub receipts_in : List (Place × ReceivedReceipt) → fin.FinMap place_cmp ReceivedReceipt
receipts_in es = fin.from_entries es

-- keys of messages whose receipts are due, stored as a set
abbrev pub dues_in : List (DueAt × ⊤) → FinSet due_cmp
dues_in es = fin.from_entries es

-- ends of their windows, stored as a set
abbrev pub ends_in : List (EndAt × ⊤) → FinSet end_cmp
ends_in es = fin.from_entries es

-- the receipt that decides a message of this standing
abbrev pub decider_held : fin.FinMap place_cmp ReceivedReceipt → Option told.Standing → Option ReceivedReceipt
decider_held receipts (Some (t.Single (Some place))) = fin.get receipts place
decider_held receipts _ = None

-- what a set has at what is noted
abbrev pub noted : Bool → Option ⊤
noted true = Some tt
noted false = None

-- the list of the receipt at a place, by its standing, if it has one
abbrev pub list_held : Grouping → Place → Option l.List
list_held g place = option_and_then (λ r. list_of_standing (receipt_standing g place r)) (fin.get g.receipts place)

-- the same of a standing that is told, where it is a receipt's
abbrev pub list_by : Bool → Option told.Standing → Option l.List
list_by false standing = None
list_by true standing = option_and_then list_told standing

-- notes where a receipt's place stands in this list of receipts alone, or in none of them
abbrev pub with_listing : FinSet listed_cmp → Place → Option l.List → FinSet listed_cmp
with_listing notes place list = patched notes (λ note. noted (is_named note.list list)) (receipt_listings (place ∷ []))

-- facts where those of places are set anew
abbrev pub facts_anew : (Place → Option Fact) → fin.FinMap place_cmp Fact → List Change → fin.FinMap place_cmp Fact
facts_anew fact facts changes = fold (λ m c. set_at m c.place (fact c.place)) facts changes

-- notes where the listings of places are set anew
abbrev pub notes_anew : Grouping → FinSet listed_cmp → List Change → FinSet listed_cmp
notes_anew g notes changes = fold (λ n c. with_listing n c.place (list_held g c.place)) notes changes

-- the traffic that stored messages and receipts are, without notes
abbrev pub stored_traffic : List (Place × Message) → List (Place × ReceivedReceipt) → TrafficValue
stored_traffic messages receipts =
    record { messages = messages_in messages; receipts = receipts_in receipts; notes = fin.empty }

-- Members are those of traffic, in which no receipt stands at the place of a message.
pub record AreOf (s : SettingsValue) (t : TrafficValue) (g : Grouping) : Type 0 where
  pub grouped : g ≡ grouping_of s t
  pub apart : (place : Place) (m : Message) → fin.get t.messages place ≡ Some m → fin.get t.receipts place ≡ None

-- A place is noted in no list of receipts.
pub record IsUnlisted (notes : FinSet listed_cmp) (place : Place) : Type 0 where
  pub none : (list : l.List) → is_traffic_list list ≡ false → fin.get notes (listed list place) ≡ None

-- Traffic as sessions say it: messages stand in the client's direction and receipts in the centre's, and no note is in a list
-- of receipts.
pub record IsTraffic (t : TrafficValue) : Type 0 where
  pub messages : (place : Place) (m : Message) → fin.get t.messages place ≡ Some m → place.dir ≡ FromClient
  pub receipts : (place : Place) (r : ReceivedReceipt) → fin.get t.receipts place ≡ Some r → place.dir ≡ FromCentre
  pub unlisted : (place : Place) → IsUnlisted t.notes place

-- A move leaves such traffic so.
abbrev pub KeepsTraffic : Move → Type 0
KeepsTraffic (PutMessage e) = e.0.dir ≡ FromClient
KeepsTraffic (TakeMessage q) = ⊤
KeepsTraffic (PutReceipt e) = e.0.dir ≡ FromCentre
KeepsTraffic (TakeReceipt q) = ⊤
KeepsTraffic (PutNote note) = is_traffic_list note.list ≡ true
KeepsTraffic (TakeNote note) = ⊤

-- messages, receipts, members, facts and notes, and where the messages whose receipts are due and the numbers stand
pub record Holding : Type 0 where
  pub messages : fin.FinMap place_cmp Message
  pub receipts : fin.FinMap place_cmp ReceivedReceipt
  pub members : Grouping
  pub facts : fin.FinMap place_cmp Fact
  pub notes : FinSet listed_cmp
  pub due : FinSet due_cmp
  pub ends : FinSet end_cmp
  pub numbers : FinSet number_cmp

-- those of traffic under what is set
abbrev pub held_of : SettingsValue → TrafficValue → Holding
held_of s t = record {
  messages = t.messages;
  receipts = t.receipts;
  members = grouping_of s t;
  facts = facts_of s t;
  notes = notes_of s t;
  due = due_of s t;
  ends = ends_of s t;
  numbers = numbers_of t;
}

-- the same where these are the facts, of which some may be those of other routes, other windows or another clock
abbrev pub held_by : SettingsValue → TrafficValue → fin.FinMap place_cmp Fact → Holding
held_by s t facts = record (held_of s t) { facts = facts; due = due_in t.messages facts; ends = ends_by s.windows t.messages facts }

-- those that an index holds now, and those that were settled
abbrev pub held_now : Index → Holding
held_now i = record {
  messages = messages_in i.messages.content;
  receipts = receipts_in i.receipts.content;
  members = i.groups.members;
  facts = i.tally.facts;
  notes = i.tally.notes;
  due = dues_in i.due.content;
  ends = ends_in i.ends.content;
  numbers = i.numbers.numbers;
}

abbrev pub held_settled : Index → Holding
held_settled i = record {
  messages = messages_in i.messages.settled;
  receipts = receipts_in i.receipts.settled;
  members = i.groups.settled;
  facts = i.tally.settled.facts;
  notes = i.tally.settled.notes;
  due = dues_in i.due.settled;
  ends = ends_in i.ends.settled;
  numbers = i.numbers.settled;
}

-- the notes of traffic: those in no list of receipts
abbrev pub traffic_notes : FinSet listed_cmp → FinSet listed_cmp
traffic_notes notes = chosen (λ note _. if is_traffic_list note.list then Some tt else None) notes

-- the traffic of which this is held
abbrev pub traffic_held : Holding → TrafficValue
traffic_held h = record { messages = h.messages; receipts = h.receipts; notes = traffic_notes h.notes }

-- What is held is that of its traffic, as sessions say it, under what is set.
pub record IsHeld (s : SettingsValue) (h : Holding) : Type 0 where
  pub held : h ≡ held_of s (traffic_held h)
  pub traffic : IsTraffic (traffic_held h)
