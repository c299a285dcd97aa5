use Rattle.std.proofs.Common.{◌≡◌, ◌++◌, length}
use Rattle.smq_tally.proofs.copies.copy_entries.Given as goal

abbrev pub invariant-loop-key : goal.invariant-loop-key
invariant-loop-key g l = record { came : l.copy.content ++ l.entries ≡ l.initial.entries; settled : l.copy.settled ≡ l.copy.content }

abbrev pub decreases-loop-key : goal.decreases-loop-key
decreases-loop-key g l = length l.entries
