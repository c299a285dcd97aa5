use Rattle.std.proofs.Common.{◌≡◌, ◌≤◌, take, None}
use Rattle.smq_desk.specs.Jobs.{Made}
use Rattle.smq_desk.proofs.worker.work.Given as goal

abbrev pub invariant-loop-row : goal.invariant-loop-row
invariant-loop-row g l = record {
  at : l.next ≡ l.row-index;
  few : l.refused ≤ l.row-index;
  seat : l.seat.number ≡ l.fn.job.seat.number;
  stop : l.stop ≡ None;
  made : Made (take l.row-index l.fn.job.rows.items) l.fn.job.seat.calls l.seat.calls l.refused;
}
