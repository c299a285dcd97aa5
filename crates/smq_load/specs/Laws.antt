-- Laws of the definitions.
use Rattle.std.specs.Prelude.{◌≡◌, ◌⊎◌, ℕ, List}
use Rattle.smq_load.specs.declared.record.Row.{Row}
use Rattle.smq_load.specs.Script.{AreRecordsOf, IsFirstBad, IsScript}

-- each text has one list of records, and is a script of one list of rows or has one first bad record, never both
pub record HasOneReading : Type 0 where
  pub some_records : (text : List ℕ) → (records : List (List (List ℕ))) × AreRecordsOf text records
  pub rows_or_bad : (text : List ℕ)
      → ((rows : List Row) × IsScript text rows) ⊎ ((number : ℕ) × IsFirstBad text number)
  pub one_records : (text : List ℕ) (a b : List (List (List ℕ)))
      → AreRecordsOf text a → AreRecordsOf text b → a ≡ b
  pub one_rows : (text : List ℕ) (a b : List Row) → IsScript text a → IsScript text b → a ≡ b
  pub one_bad : (text : List ℕ) (a b : ℕ) → IsFirstBad text a → IsFirstBad text b → a ≡ b
  pub apart : (text : List ℕ) (rows : List Row) (number : ℕ)
      → IsScript text rows → IsFirstBad text number → ⊥
