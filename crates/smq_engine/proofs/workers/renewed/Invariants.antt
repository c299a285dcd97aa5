-- The jobs so far are renewed.
use Rattle.std.proofs.Common.{◌≡◌, ◌++◌, List}
use Rattle.std.specs.List.{AllZip}
use Rattle.std.specs.Vec.Iter.{into_iter_items}
use Rattle.smq_desk.specs.declared.job.LinkJob.{LinkJob}
use Rattle.smq_engine.specs.within.Jobs.{IsRenewed}
use Rattle.smq_engine.proofs.workers.renewed.Given as goal

abbrev pub invariant-loop-job : goal.invariant-loop-job
invariant-loop-job l = record {
  taken : List LinkJob;
  all : taken ++ into_iter_items l.job-iterator ≡ l.fn.jobs.items;
  renewed : AllZip IsRenewed taken l.fresh.items;
}
