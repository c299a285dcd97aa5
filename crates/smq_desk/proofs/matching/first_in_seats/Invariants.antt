use Rattle.std.proofs.Common.{take, All}
use Rattle.smq_desk.specs.Seats.{HasItsCalls}
use Rattle.smq_desk.specs.Closing.{AgreesUpTo}
use Rattle.smq_desk.proofs.FirstFaults.{First}
use Rattle.smq_desk.proofs.matching.first_in_seats.Given as goal

abbrev pub invariant-loop-seat : goal.invariant-loop-seat
invariant-loop-seat l = First (All (HasItsCalls l.history.entries) (take l.seat-index l.seats)) (λ n. All (AgreesUpTo l.history.entries n) (take l.seat-index l.seats)) l.first
