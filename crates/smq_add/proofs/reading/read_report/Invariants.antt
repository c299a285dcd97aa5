-- The lines so far are those of the rows so far.
use Rattle.std.proofs.Common.{◌≡◌, ◌++◌, ◌+◌, ◌≤◌, ℕ, List, length}
use Rattle.smq_add.specs.declared.row.Row.{Row}
use Rattle.smq_add.specs.Rows.{AreRows, rows_text}
use Rattle.smq_add.proofs.reading.read_report.Given as goal
use Rattle.std.specs.Prelude.{Bool}

pub record Read (with_lengths : Bool) (text left : List ℕ) (rows : List Row) (number : ℕ) : Type 0 where
  pub lines : rows_text rows ++ left ≡ text
  pub are : AreRows with_lengths rows
  pub few : number + length left ≤ length text

abbrev pub invariant-loop-left : goal.invariant-loop-left
invariant-loop-left l = Read l.with_lengths l.text l.left l.rows.items l.number

abbrev pub decreases-loop-left : goal.decreases-loop-left
decreases-loop-left l = length l.left
