use Rattle.std.proofs.Common.{◌≡◌, ◌≤◌, take, drop, length, All}
use Rattle.smq_desk.specs.Seats.{HasOneSeat}
use Rattle.smq_desk.proofs.matching.first_in_entries.Given as goal

abbrev pub invariant-loop-entry : goal.invariant-loop-entry
invariant-loop-entry l = record {
  at : l.left ≡ drop l.number l.history.entries;
  within : l.number ≤ length l.history.entries;
  so_far : All (HasOneSeat l.seats) (take l.number l.history.entries);
}

abbrev pub decreases-loop-entry : goal.decreases-loop-entry
decreases-loop-entry l = length l.left
