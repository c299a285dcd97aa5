use Rattle.std.proofs.Common.{◌≡◌, length}
use Rattle.smq_tally.specs.within.RowCounts.{numbers_under}
use Rattle.smq_tally.proofs.rows.next_count.Given as goal

abbrev pub invariant-loop-outcome : goal.invariant-loop-outcome
invariant-loop-outcome l = numbers_under l.row l.left ≡ numbers_under l.row l.outcomes

abbrev pub decreases-loop-outcome : goal.decreases-loop-outcome
decreases-loop-outcome l = length l.left
