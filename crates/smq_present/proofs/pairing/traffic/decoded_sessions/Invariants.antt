-- The sessions so far, and those that are left, are all.
use Rattle.std.proofs.Common.{◌≡◌, ◌++◌, drop}
use Rattle.smq_present.proofs.pairing.traffic.decoded_sessions.Given as goal

abbrev pub invariant-loop-again : goal.invariant-loop-again
invariant-loop-again l = l.made.items ++ drop l.again-index l.decoded ≡ l.decoded
