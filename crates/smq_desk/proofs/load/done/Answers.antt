use Rattle.std.proofs.Common.{◌≡◌, ◌<◌, length, ap, ◌∙◌, arith}
use Rattle.smq_desk.specs.Jobs.{Worked, IsFresh}
use Rattle.smq_desk.proofs.JobsInTurn.{holds_at, one_more, others_stay}
use Rattle.smq_desk.proofs.load.done.Goals as goal

pub work-requires : goal.work-requires
work-requires g c =
    let l = c.loop-job in
    let lt : l.job-index < length c.args.jobs.items = omega (arith, ap length c.deref_mut-job-items.ensures.value) in
    holds_at Worked IsFresh c.args.jobs.items l.job-items l.job-index c.job-item.result c.requires.fresh l.invariant.rest lt

pub loop-job-preserved : goal.loop-job-preserved
loop-job-preserved g c =
    let l = c.loop-job in
    let lt : l.job-index < length c.args.jobs.items = omega (arith, ap length c.deref_mut-job-items.ensures.value) in
    let len : length l.job-items ≡ length c.args.jobs.items = l.auto.job-items ∙ ap length c.deref_mut-job-items.ensures.value in record {
      worked = one_more Worked c.args.jobs.items l.job-items l.job-index c.job-item.result c.work.new.job l.invariant.worked l.invariant.rest len lt c.work.ensures.worked;
      rest = others_stay Worked c.args.jobs.items l.job-items l.job-index c.work.new.job l.invariant.rest;
      worker = omega (arith, l.invariant.worker);
    }
