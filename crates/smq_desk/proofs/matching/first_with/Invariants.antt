use Rattle.std.proofs.Common.{◌≡◌, drop}
use Rattle.smq_desk.specs.Closing.{first_with}
use Rattle.smq_desk.proofs.matching.first_with.Given as goal

abbrev pub invariant-loop-seat : goal.invariant-loop-seat
invariant-loop-seat l = first_with l.number (drop l.seat-index l.seats) ≡ first_with l.number l.seats
