use Rattle.smq_desk.proofs.ToldSeat.{of_entry, of_call}
use Rattle.smq_desk.proofs.matching.told_seat.Goals as goal

pub returns-in-Some : goal.returns-in-Some
returns-in-Some c =
    of_entry c.args.history.now.entries c.args.seats.now c.args.number c.in-Some.entry.now c.in-Some.ensures.0 c.in-Some.ensures.1 c.in-Some.ensures.2

pub returns : goal.returns
returns c = of_call c.args.history.now.entries c.args.seats.now c.args.number c.first_with.result c.requires c.in_default.ensures c.first_with.ensures
