use Rattle.std.proofs.Common.{sym, arith}
use Rattle.smq_window.proofs.Keeps.{with-number, without-number}
use Rattle.smq_window.proofs.connection.has_period.Goals as goal

pub returns-then-kept-period : goal.returns-then-kept-period
returns-then-kept-period c =
    with-number c.args.period c.args.periods.now c.loop-kept.kept-index c.kept-item.result (omega arith) c.kept-item.is c.if-kept-period.true

pub returns : goal.returns
returns c =
    sym (without-number c.args.period c.args.periods.now (λ k d low. c.loop-kept.invariant k d (omega (arith, low))))
