-- A script: its records, its rows, and its first bad record.
use Rattle.std.specs.Prelude.{Bool, nat_le, ◌≡◌, ◌+◌, ◌≤◌, ◌⊎◌, ⊤, ℕ, List, ◌∷◌, ◌++◌, length, map, Some, None, Result, Ok, Err}
use Rattle.csv.specs.Reading.{AreRecords, default_config, strip_bom}
use Rattle.csv.specs.declared.parser.State.TheVariants as state
use Rattle.smq_load.specs.declared.record.Row.{Row}
use Rattle.smq_load.specs.declared.load_fault.LoadFault.{LoadFault}
use Rattle.smq_load.specs.declared.load_fault.LoadFault.TheVariants.{BadRow, BadSettings, Read, Memory}
use Rattle.smq_load.specs.Row.{row_of}

-- whether a script may have so many octets
abbrev pub may_have : ℕ → Bool
may_have octets = nat_le octets 268435456

-- how many records a script may have
abbrev pub most_records : ℕ
most_records = 1000000

-- these are all the records of a text after its byte order mark, each with its fields, as `csv` reads commas and
-- double quotes with no header record
abbrev pub AreRecordsOf : List ℕ → List (List (List ℕ)) → Type 0
AreRecordsOf text records = AreRecords default_config state.StartRecord (strip_bom text) records

-- each of these records says the row of the same place
abbrev pub SayRows : List (List (List ℕ)) → List Row → Type 0
SayRows records rows = map row_of records ≡ map Some rows

-- the records of a text each say the row of the same place, and there are at most 1,000,000
pub record IsScript (text : List ℕ) (rows : List Row) : Type 0 where
  pub records : List (List (List ℕ))
  pub are_records : AreRecordsOf text records
  pub say_rows : SayRows records rows
  pub in_range : length records ≤ most_records

-- the first bad record of a text, as records are numbered from 1: it says no row, or it is the record after 1,000,000,
-- and each record before it says a row
pub record IsFirstBad (text : List ℕ) (number : ℕ) : Type 0 where
  pub before : List (List (List ℕ))
  pub bad : List (List ℕ)
  pub after : List (List (List ℕ))
  pub are_records : AreRecordsOf text (before ++ bad ∷ after)
  pub numbered : number ≡ length before + 1
  pub rows : List Row
  pub say_rows : SayRows before rows
  pub in_range : length before ≤ most_records
  pub is_bad : (row_of bad ≡ None) ⊎ (length before ≡ most_records)

-- what a fault tells of a text: a bad row is its first, and no fault is of settings
abbrev pub Tells : LoadFault → List ℕ → Type 0
Tells (BadRow row) text = IsFirstBad text row
Tells BadSettings text = ⊥
Tells Read text = ⊤
Tells Memory text = ⊤

-- the rows were judged, and this holds then
abbrev pub IfJudged : {T : Type 0} → Result T LoadFault → Type 0 → Type 0
IfJudged (Ok rows) P = P
IfJudged (Err (BadRow row)) P = P
IfJudged (Err BadSettings) P = P
IfJudged (Err Read) P = ⊤
IfJudged (Err Memory) P = ⊤
