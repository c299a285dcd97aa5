use Rattle.std.proofs.Common.{◌≡◌, length, All}
use Rattle.smq_engine.specs.within.Jobs.{IsNew}
use Rattle.smq_engine.proofs.workers.new_jobs.Given as goal

abbrev pub invariant-loop : goal.invariant-loop
invariant-loop g l = record { number : length l.jobs.items ≡ l.counter; new : All IsNew l.jobs.items }
