-- what was counted so far
use Rattle.std.proofs.Common.{◌≡◌, ◌*◌, ◌≤◌, ◌^◌, ℕ, take}
use Rattle.smq_add.specs.Checks.{length_of}
use Rattle.smq_add.proofs.checks.length_of.Given as goal

pub record Counted (number index sum : ℕ) : Type 0 where
  pub value : number ≡ sum
  pub bound : number ≤ index * 2 ^ 64

abbrev pub invariant-loop-row : goal.invariant-loop-row
invariant-loop-row l = Counted l.number l.row-index (length_of l.list (take l.row-index l.rows))
