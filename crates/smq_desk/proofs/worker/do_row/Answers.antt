use Rattle.smq_present.specs.declared.present.edit.Edit.TheVariants.{Append}
use Rattle.smq_desk.proofs.RowsInTurn.{ends_by_commit}
use Rattle.smq_desk.proofs.worker.do_row.Goals as goal

pub returns-in-Ok : goal.returns-in-Ok
returns-in-Ok g c =
    ends_by_commit c.args.row.now (Append c.in-Ok.batch) c.args.seat.now c.committed.new.seat c.committed.result (c.in-Ok.ensures {u = tt}).ok c.committed.ensures
