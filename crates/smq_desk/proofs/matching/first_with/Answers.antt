use Rattle.std.proofs.Common.{◌∙◌, sym}
use Rattle.smq_desk.proofs.FirstWith.{without, with_one}
use Rattle.smq_desk.proofs.matching.first_with.Goals as goal

pub returns-then-has_call : goal.returns-then-has_call
returns-then-has_call c =
    rw (with_one c.args.number c.args.seats.now c.loop-seat.seat-index c.seat-item.result c.loop-seat-test.true c.seat-item.is
    (sym c.has_call.ensures ∙ c.if-has_call.true) c.loop-seat.invariant) c.number.ensures

pub loop-seat-preserved : goal.loop-seat-preserved
loop-seat-preserved c =
    without c.args.number c.args.seats.now c.loop-seat.seat-index c.seat-item.result c.loop-seat-test.true c.seat-item.is
    (sym c.has_call.ensures ∙ c.if-has_call.false) c.loop-seat.invariant
