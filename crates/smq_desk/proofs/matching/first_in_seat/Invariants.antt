use Rattle.std.proofs.Common.{◌≡◌, ◌≤◌, ◌++◌, take, drop, length}
use Rattle.smq_desk.specs.Seats.{calls_in}
use Rattle.smq_desk.proofs.matching.first_in_seat.Given as goal

abbrev pub invariant-loop-entry : goal.invariant-loop-entry
invariant-loop-entry l = record {
  at : l.left ≡ drop l.number l.history.entries;
  within : l.number ≤ length l.history.entries;
  so_far : l.seat.calls ≡ calls_in (take l.number l.history.entries) l.seat.number ++ l.rest;
}

abbrev pub decreases-loop-entry : goal.decreases-loop-entry
decreases-loop-entry l = length l.left
