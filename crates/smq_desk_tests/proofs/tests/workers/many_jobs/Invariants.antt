use Rattle.std.proofs.Common.{◌≤◌, length, All}
use Rattle.smq_desk.specs.Jobs.{IsFresh}
use Rattle.smq_desk_tests.proofs.tests.workers.many_jobs.Given as goal

abbrev pub invariant-loop-link : goal.invariant-loop-link
invariant-loop-link g l = record { fresh : All IsFresh l.jobs.items; few : length l.jobs.items ≤ l.link }
