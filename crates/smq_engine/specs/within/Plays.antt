-- The rows that were read and played so far.
use Rattle.std.specs.Prelude.{◌≡◌, ◌+◌, ℕ, List, length, Option}
use Rattle.csv.specs.declared.reader.Reader.{Reader}
use Rattle.smq_kit.specs.declared.refusal.Refusal.{Refusal}
use Rattle.smq_present.specs.present.Present.{PresentValue}
use Rattle.smq_load.specs.declared.record.Row.{Row}
use Rattle.smq_load.specs.NextRecord.{HasRead}
use Rattle.smq_engine.specs.Play.{after_rows, refused_rows}
use Rattle.smq_engine.specs.IsRun.{AreRowsOf}

-- a reader of this text has given rows, which were played where this was present first; this is present now, these were refused,
-- and the next row has this number
pub record HasPlayedRows {R : Type 0} (remaining : R → Option (List ℕ)) (reader : Reader R) (text : List ℕ)
    (first present : PresentValue) (refused : List (ℕ × Refusal)) (number : ℕ) : Type 0 where
  pub rows : List Row
  pub read : HasRead remaining reader text rows
  pub numbered : number ≡ length rows + 1
  pub present_is : present ≡ after_rows first rows
  pub refused_are : refused ≡ refused_rows first rows

-- all rows of a text were played where this was present first; this is present now, and these were refused
pub record ArePlayedFrom (first present : PresentValue) (refused : List (ℕ × Refusal)) (text : List ℕ) : Type 0 where
  pub rows : List Row
  pub are_rows : AreRowsOf text rows
  pub present_is : present ≡ after_rows first rows
  pub refused_are : refused ≡ refused_rows first rows
