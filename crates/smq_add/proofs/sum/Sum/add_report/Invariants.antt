-- The sum has the rows that are gone.
use Rattle.std.proofs.Common.{◌≡◌, ◌++◌, List, map}
use Rattle.std.specs.Vec.Iter.{into_iter_items}
use Rattle.smq_add.specs.declared.row.Row.{Row}
use Rattle.smq_add.specs.Sums.{as_added, sum_of}
use Rattle.smq_add.proofs.sum.Sum.add_report.Given as goal

abbrev pub invariant-loop-row : goal.invariant-loop-row
invariant-loop-row l =
    (before : List Row) → l.fn.self ≡ sum_of before
    → (done : List Row) × (done ++ into_iter_items l.row-iterator ≡ l.fn.report.items) × (l.self ≡ sum_of (before ++ map (as_added l.of_periods) done))
