use Rattle.smq_desk.proofs.FirstFaults.{seats_and_entries}
use Rattle.smq_desk.proofs.matching.first_difference.Goals as goal

pub returns : goal.returns
returns c = rw c.earlier.ensures (seats_and_entries c.args.history.now.entries c.args.seats.now c.first_in_seats.result c.first_in_entries.result c.first_in_seats.ensures c.first_in_entries.ensures)
