use Rattle.std.proofs.Common.{ℕ, ◌≤◌, List, ◌++◌, length, take, ◌-◌}
use Rattle.smq_streams.specs.Framing.{IsFramed}
use Rattle.smq_streams.proofs.framer.Framer.feed.Given as goal

abbrev pub invariant-loop-at : goal.invariant-loop-at
invariant-loop-at l = record {
  within : l.at ≤ length l.octets;
  fed : (before : List ℕ) → IsFramed before l.initial.self → IsFramed (before ++ take l.at l.octets) l.self;
}

abbrev pub decreases-loop-at : goal.decreases-loop-at
decreases-loop-at l = length l.octets - l.at
