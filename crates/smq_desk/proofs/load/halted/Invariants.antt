use Rattle.std.proofs.Common.{◌≡◌, take, drop}
use Rattle.std.specs.List.{AllZip}
use Rattle.smq_desk.specs.Jobs.{Worked}
use Rattle.smq_desk.proofs.load.halted.Given as goal

abbrev pub invariant-loop-job : goal.invariant-loop-job
invariant-loop-job l = record {
  worked : AllZip Worked (take l.job-index l.fn.jobs.items) (take l.job-index l.job-items);
  rest : drop l.job-index l.job-items ≡ drop l.job-index l.fn.jobs.items;
}
