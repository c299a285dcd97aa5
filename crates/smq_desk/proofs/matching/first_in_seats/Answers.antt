use Rattle.std.proofs.Common.{List, All, subst}
use Rattle.std.proofs.lemmas.List.{take_all}
use Rattle.smq_desk.specs.Seats.{SeatValue, HasItsCalls}
use Rattle.smq_desk.specs.Closing.{AgreesUpTo}
use Rattle.smq_desk.proofs.FirstFaults.{First, next_seat}
use Rattle.smq_desk.proofs.matching.first_in_seats.Goals as goal

pub loop-seat-preserved : goal.loop-seat-preserved
loop-seat-preserved c =
    rw c.earlier-first.ensures (
    next_seat c.args.history.now.entries c.args.seats.now c.loop-seat.seat-index c.seat-item.result c.loop-seat.first c.first_in_seat.result
    c.loop-seat-test.true c.seat-item.is c.loop-seat.invariant c.first_in_seat.ensures
    )

pub returns : goal.returns
returns c =
    subst (λ (xs : List SeatValue). First (All (HasItsCalls c.args.history.now.entries) xs) (λ n. All (AgreesUpTo c.args.history.now.entries n) xs) c.loop-seat.first)
    (take_all c.loop-seat.seat-index c.args.seats.now c.loop-seat-test.false) c.loop-seat.invariant
