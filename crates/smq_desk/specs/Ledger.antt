-- What a contract sees of a ledger, and what is true of each.
use Rattle.std.specs.Prelude.{◌≡◌, ◌≤◌, ◌+◌, ℕ, List, [], ◌∷◌, ◌++◌, length}
use Rattle.smq_present.specs.declared.present.edit.Edit.{Edit}
use Rattle.smq_present.specs.present.Present.{PresentValue}
use Rattle.smq_desk.specs.declared.entry.Entry.{Entry}
use Rattle.smq_desk.specs.declared.entry.Reply.{Reply}
use Rattle.smq_desk.specs.History.{entry_of, replay, StartsWith, IsLegal, reply_to}

-- a ledger: the most entries that it takes, how many seats were given out, its history, and the entries of the edition that is
-- on its board
pub record LedgerValue : Type 0 where
  pub limit : ℕ
  pub seats : ℕ
  pub entries : List Entry
  pub board : List Entry

-- a history as it is stored: its entries, and how many more it takes before it needs memory
pub record HistoryValue : Type 0 where
  pub entries : List Entry
  pub room : ℕ

-- a closed desk: its history
pub record ClosedValue : Type 0 where
  pub entries : List Entry

-- a ledger in which nothing was committed yet, and whose board has no entries
abbrev pub opened : ℕ → LedgerValue
opened limit = record { limit = limit; seats = 0; entries = []; board = [] }

-- A ledger's history is legal, within its limit, and begins with the entries on the board; and what is present in its book is the
-- history's replay. Limit and number of seats are within those of every desk.
pub record IsKept (l : LedgerValue) (present : PresentValue) : Type 0 where
  pub legal : IsLegal l.entries
  pub replayed : present ≡ replay l.entries
  pub in_limit : length l.entries ≤ l.limit
  pub published : StartsWith l.entries l.board
  pub limit_in_range : l.limit ≤ 1048576
  pub seats_in_range : l.seats ≤ 65536

-- One entry is added, at the end: that of this seat and edit, with the reply that the book gives at this point. Its number
-- and reply are told. Nothing else changes.
pub record Adds (old new : LedgerValue) (seat : ℕ) (edit : Edit) (number : ℕ) (answer : Reply) : Type 0 where
  pub added : new ≡ record old { entries = old.entries ++ entry_of seat edit answer ∷ [] }
  pub numbered : number ≡ length old.entries + 1
  pub replied : answer ≡ reply_to (replay old.entries) edit
