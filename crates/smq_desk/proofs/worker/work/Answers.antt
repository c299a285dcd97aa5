use Rattle.std.proofs.Common.{arith, ◌∙◌}
use Rattle.smq_desk.proofs.RowsInTurn.{made_at}
use Rattle.smq_desk.proofs.worker.work.Goals as goal
use Rattle.smq_desk.proofs.worker.work.Goals.{in-Refused, in-Done}

pub loop-row-preserved : goal.loop-row-preserved
loop-row-preserved g c =
    let h = c.loop-row.invariant in
    let job = c.args.job.now in
    let end = c.do_row-end.result in
    let row = c.row-item.result in
    let seat = c.do_row-end.new.seat in
    elim c.match-end.branch [
      | in-Refused w ↦
          let m = made_at job.rows.items c.deref-row-items.result.now c.loop-row.row-index row job.seat.calls c.loop-row.seat seat c.loop-row.refused c.match-end.refused end
          c.deref-row-items.ensures.value c.loop-row-test.true c.row-item.is c.do_row-end.ensures (rw w.in-Refused.is w.refused-is) h.made in
          record { at = omega arith; few = omega arith; seat = m.1 ∙ h.seat; stop = h.stop; made = m.0 }
      | in-Done w ↦
          let m = made_at job.rows.items c.deref-row-items.result.now c.loop-row.row-index row job.seat.calls c.loop-row.seat seat c.loop-row.refused c.match-end.refused end
          c.deref-row-items.ensures.value c.loop-row-test.true c.row-item.is c.do_row-end.ensures (rw w.in-Done.is w.refused-is) h.made in
          record { at = omega arith; few = omega arith; seat = m.1 ∙ h.seat; stop = h.stop; made = m.0 }
    ]
