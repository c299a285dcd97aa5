-- What a contract sees of editions, and what is true of each.
use Rattle.std.specs.Prelude.{◌≡◌, List}
use Rattle.smq_tally.specs.Tables.{TablesValue}
use Rattle.smq_present.specs.whole.Scratch.{scratch}
use Rattle.smq_desk.specs.declared.entry.Entry.{Entry}
use Rattle.smq_desk.specs.History.{replay, IsLegal}

-- an edition, a note that tells of it, or a watcher that has it: its entries
pub record EditionValue : Type 0 where
  pub entries : List Entry

-- Entries and tables belong together: the entries are a legal history, and the tables are those, from nothing, of what it
-- leaves present.
pub record AreOfOneHistory (entries : List Entry) (shown : TablesValue) : Type 0 where
  pub legal : IsLegal entries
  pub tables : shown ≡ scratch (replay entries)
