use Rattle.std.proofs.Common.{arith}
use Rattle.smq_window.proofs.Sums.{numbers-set}
use Rattle.smq_window.proofs.periods.put_at.Goals as goal

pub returns-in_ok-put-in-Some-clause-numbers : goal.returns-in_ok-put-in-Some-clause-numbers
returns-in_ok-put-in-Some-clause-numbers c =
    numbers-set c.args.periods.now.items c.args.index c.put.new.self c.index_mut-period.result.now
    (omega (arith, c.requires, c.args.periods.now.ok.0)) c.index_mut-period.ensures.value
