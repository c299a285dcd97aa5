-- An index of nothing.
use Rattle.std.specs.FinMap as fin
use Rattle.smq_group.specs.Groups.{no_members}
use Rattle.smq_book.specs.index.Held.{Holding}

-- no messages, receipts, members, facts and notes, no messages whose receipts are due, and no numbers
abbrev pub nothing_held : Holding
nothing_held = record {
  messages = fin.empty;
  receipts = fin.empty;
  members = no_members;
  facts = fin.empty;
  notes = fin.empty;
  due = fin.empty;
  ends = fin.empty;
  numbers = fin.empty;
}
