use Rattle.smq_desk.proofs.RowsInTurn as rows
use Rattle.smq_desk.proofs.worker.prepared.Goals as goal

pub returns : goal.returns
returns g c =
    let made = rows.prepared c.args.row.now c.in_ok-tail.tail c.in-Ok.octets c.prepare.result c.in-Ok.ensures.cases c.prepare.ensures.value c.prepare.ensures.refused in
    record { ok = made.0; err = made.1 }
