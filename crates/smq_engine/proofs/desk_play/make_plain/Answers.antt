use Rattle.smq_engine.proofs.WorkerLemmas.{passed_by}
use Rattle.smq_engine.proofs.desk_play.make_plain.Goals as goal

pub returns-clause-pieces : goal.returns-clause-pieces
returns-clause-pieces g c before jobs_of =
    passed_by before c.args.edit c.in_ok-jobs.jobs.items (c.in_ok-jobs.ensures.pieces before jobs_of)
