use Rattle.std.proofs.Common.{rules}
use Rattle.smq_capture.proofs.Waits.{done-taken, weight-taken}
use Rattle.smq_capture.proofs.rows.Rows.take.Goals as goal

pub invariant_of-self-2 : goal.invariant_of-self-2
invariant_of-self-2 c =
    rw (c.saturating_sub-self-inside.ensures, c.saturating_sub-self-inside-2.ensures) (
      search (rules, weight-taken),
      done-taken _ _ _ _ c.in_ok-row.row (search rules) c.self.invariant.1,
      done-taken _ _ _ _ c.in_ok-row.row (search rules) c.self.invariant.2,
    )
