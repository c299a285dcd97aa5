-- Facts and listings that are set anew, where what is said stays.
use Rattle.std.specs.Prelude.{◌≡◌, Option}
use Rattle.std.specs.FinMap as fin
use Rattle.std.specs.FinSet.{FinSet}
use Rattle.smq_kit.specs.declared.place.Place.{Place}
use Rattle.smq_kit.specs.Orders.{place_cmp}
use Rattle.smq_tally.specs.Lists.{listed_cmp}
use Rattle.smq_tally.specs.declared.fact.Fact.{Fact}
use Rattle.smq_book.specs.declared.index.index.Index.{Index}
use Rattle.smq_book.specs.index.Due.{due_cmp, due_in}
use Rattle.smq_book.specs.index.Ends.{Windows, end_cmp, ends_by}
use Rattle.smq_book.specs.index.Following.{MayFollow}
use Rattle.smq_book.specs.index.Held.{AreOf, dues_in, ends_in, messages_in, stored_traffic}
use Rattle.smq_present.specs.pairing.Traffic.{Message, TrafficValue}
use Rattle.smq_present.specs.present.Settings.{SettingsValue}

-- the traffic that an index stores, without notes
abbrev pub stored_in : Index → TrafficValue
stored_in i = stored_traffic i.messages.content i.receipts.content

-- its members are those of that
abbrev pub AreIn : SettingsValue → Index → Type 0
AreIn s i = AreOf s (stored_in i) i.groups.members

-- and its facts and notes may be those of other standings
abbrev pub CanFollow : SettingsValue → Option Place → Index → Type 0
CanFollow s new i = MayFollow s (stored_in i) i.groups.members new i.tally.facts i.tally.notes

-- What is said stays, and how it stands, and all that was settled.
pub record KeepsSaid (old new : Index) : Type 0 where
  pub messages : new.messages ≡ old.messages
  pub receipts : new.receipts ≡ old.receipts
  pub groups : new.groups ≡ old.groups
  pub numbers : new.numbers ≡ old.numbers
  pub settled : new.tally.settled ≡ old.tally.settled
  pub settled_due : new.due.settled ≡ old.due.settled
  pub settled_ends : new.ends.settled ≡ old.ends.settled

-- Facts and notes are these, and others may follow.
pub record IsAnew (s : SettingsValue) (new : Option Place) (i : Index) (known : fin.FinMap place_cmp Fact) (noted : FinSet listed_cmp)
    : Type 0 where
  pub facts : i.tally.facts ≡ known
  pub notes : i.tally.notes ≡ noted
  pub follows : CanFollow s new i

-- Keys by link and moment, and ends of windows, are those of the messages whose facts say that their receipts are due.
pub record AreDue (windows : Windows) (messages : fin.FinMap place_cmp Message) (facts : fin.FinMap place_cmp Fact)
    (due : FinSet due_cmp) (ends : FinSet end_cmp) : Type 0 where
  pub keys : due ≡ due_in messages facts
  pub ended : ends ≡ ends_by windows messages facts

-- those of an index are
abbrev pub IsDue : Windows → Index → Type 0
IsDue windows i = AreDue windows (messages_in i.messages.content) i.tally.facts (dues_in i.due.content) (ends_in i.ends.content)
