use Rattle.std.proofs.Common.{◌≡◌, length, arith}
use Rattle.smq_engine.proofs.WorkerLemmas.{new_of_nothing, new_ready}
use Rattle.smq_engine.proofs.workers.new_jobs.Goals as goal

pub returns-clause-ready : goal.returns-clause-ready
returns-clause-ready g c =
    let number : length c.loop.jobs.items ≡ 8 = omega (arith, c.loop.invariant.number) in
    new_ready c.loop.jobs.items number c.loop.invariant.new

pub returns-clause-pieces : goal.returns-clause-pieces
returns-clause-pieces g c = new_of_nothing c.loop.jobs.items c.loop.invariant.new
