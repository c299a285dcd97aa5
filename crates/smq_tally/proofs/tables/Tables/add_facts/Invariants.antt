use Rattle.std.proofs.Common.{length}
use Rattle.smq_tally.proofs.Gathered.{IsGathering}
use Rattle.smq_tally.proofs.tables.Tables.add_facts.Given as goal

abbrev pub invariant-loop-fact : goal.invariant-loop-fact
invariant-loop-fact l = IsGathering l.facts l.left l.self.shown

abbrev pub decreases-loop-fact : goal.decreases-loop-fact
decreases-loop-fact l = length l.left
