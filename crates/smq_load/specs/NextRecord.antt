-- The next record of a script: what its row adds, what a fault at it tells, and what was read before it.
use Rattle.std.specs.Prelude.{◌≡◌, ◌+◌, ⊤, ℕ, List, [], ◌∷◌, ◌++◌, length, Option, Some, None}
use Rattle.csv.specs.Reading.{Reached, Ready, default_config, reader_config, reader_state, reader_trim, source_of, strip_bom}
use Rattle.csv.specs.declared.parser.State.TheVariants as state
use Rattle.csv.specs.declared.reader.Reader.{Reader}
use Rattle.csv.specs.declared.reader.Trim.TheVariants as trim
use Rattle.smq_load.specs.declared.record.Row.{Row}
use Rattle.smq_load.specs.declared.load_fault.LoadFault.{LoadFault}
use Rattle.smq_load.specs.declared.load_fault.LoadFault.TheVariants.{BadRow, BadSettings, Read, Memory}
use Rattle.smq_load.specs.Row.{row_of}
use Rattle.smq_load.specs.Script.{SayRows}

-- the row of a record stands after the rows before it
abbrev pub AddsRow : List Row → List Row → List (List ℕ) → Type 0
AddsRow old new fields = (row : Row) × (row_of fields ≡ Some row) × (new ≡ old ++ row ∷ [])

-- what a fault tells of the next record, after these rows: a bad row is this record's, and it says no row
abbrev pub TellsNext : LoadFault → List Row → List (List ℕ) → Type 0
TellsNext (BadRow row) rows fields = (row_of fields ≡ None) × (row ≡ length rows + 1)
TellsNext BadSettings rows fields = ⊥
TellsNext Read rows fields = ⊤
TellsNext Memory rows fields = ⊤

-- a reader of this text has given these records, and has the rest of the text left
pub record HasGiven {R : Type 0} (remaining : R → Option (List ℕ)) (reader : Reader R) (text : List ℕ)
    (records : List (List (List ℕ))) : Type 0 where
  pub untrimmed : reader_trim reader ≡ trim.None
  pub ready : Ready reader
  pub config : reader_config reader ≡ default_config
  pub rest : List ℕ
  pub source : source_of remaining reader ≡ Some rest
  pub reached : Reached default_config state.StartRecord (strip_bom text) records
      (reader_state reader) rest

-- a reader of this text has given the records that say these rows
pub record HasRead {R : Type 0} (remaining : R → Option (List ℕ)) (reader : Reader R) (text : List ℕ) (rows : List Row)
    : Type 0 where
  pub records : List (List (List ℕ))
  pub given : HasGiven remaining reader text records
  pub say_rows : SayRows records rows

-- a fault of reading, which tells of no row
abbrev pub IsUnread : LoadFault → Type 0
IsUnread (BadRow row) = ⊥
IsUnread BadSettings = ⊥
IsUnread Read = ⊤
IsUnread Memory = ⊤
