use Rattle.std.proofs.Common.{length}
use Rattle.smq_desk.proofs.EntriesLeft.{BeginAlike}
use Rattle.smq_desk.proofs.history.History.starts_with.Given as goal

abbrev pub invariant-loop-entry : goal.invariant-loop-entry
invariant-loop-entry l = BeginAlike l.self.entries l.ours l.other.entries l.theirs

abbrev pub decreases-loop-entry : goal.decreases-loop-entry
decreases-loop-entry l = length l.theirs
