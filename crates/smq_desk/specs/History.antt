-- Histories of a book: the edits that were committed, in order, each with its seat and its reply.
use Rattle.std.specs.Prelude.{◌≡◌, ℕ, List, [], ◌∷◌, ◌++◌, map, Option, Some, None}
use Rattle.std.specs.Iterator.{YieldsFirstRef}
use Rattle.std.specs.Iterator.Runs.{YieldsRefsInOrder}
use Rattle.smq_kit.specs.declared.refusal.Refusal.{Refusal}
use Rattle.smq_present.specs.declared.present.edit.Edit.{Edit}
use Rattle.smq_present.specs.present.Present.{PresentValue, empty}
use Rattle.smq_present.specs.present.Replies.{reply}
use Rattle.smq_present.specs.present.Steps.{step, steps}
use Rattle.smq_desk.specs.declared.entry.Entry.{Entry}
use Rattle.smq_desk.specs.declared.entry.Reply.{Reply}
use Rattle.smq_desk.specs.declared.entry.Reply.TheVariants.{Done, Refused}

-- the entry of these parts
abbrev pub entry_of : ℕ → Edit → Reply → Entry
entry_of seat edit answer = record { seat = seat; edit = edit; reply = answer }

-- done, or refused so
abbrev pub reply_by : Option Refusal → Reply
reply_by None = Done
reply_by (Some refusal) = Refused refusal

-- what a book replies to an edit, lack of memory aside
abbrev pub reply_to : PresentValue → Edit → Reply
reply_to p edit = reply_by (reply p edit)

-- the edits of entries, in order
abbrev pub edits_of : List Entry → List Edit
edits_of entries = map (λ e. e.edit) entries

-- what is present after these entries
abbrev pub replay_from : PresentValue → List Entry → PresentValue
replay_from p entries = steps p (edits_of entries)

-- what is present after a history
abbrev pub replay : List Entry → PresentValue
replay entries = replay_from empty entries

-- each entry has the reply that the book gives at its point
abbrev pub IsLegalFrom : PresentValue → List Entry → Type 0
IsLegalFrom p [] = Unit {0}
IsLegalFrom p (e ∷ entries) = (e.reply ≡ reply_to p e.edit) × IsLegalFrom (step p e.edit) entries

-- the same of a history, which begins where nothing is present
abbrev pub IsLegal : List Entry → Type 0
IsLegal entries = IsLegalFrom empty entries

-- a history begins with the entries of another
abbrev pub StartsWith : List Entry → List Entry → Type 0
StartsWith entries first = (later : List Entry) × (entries ≡ first ++ later)

-- an iterator of entries gives what it has left, in order
abbrev pub EntriesComeInOrder : Type 0
EntriesComeInOrder = YieldsRefsInOrder (YieldsFirstRef {A = Entry} (λ left. left)) (λ left. left)
