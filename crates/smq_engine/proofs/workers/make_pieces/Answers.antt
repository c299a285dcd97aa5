use Rattle.smq_engine.proofs.WorkerLemmas.{renewed_done, renewed_jobs, renewed_ready}
use Rattle.smq_engine.proofs.workers.make_pieces.Goals as goal

pub returns-clause-ready : goal.returns-clause-ready
returns-clause-ready g c =
    renewed_ready c.args.jobs.items c.load_links-worked.result.items c.in_ok-fresh.fresh.items c.load_links-worked.ensures
    c.in_ok-fresh.ensures.ok c.requires

pub returns-clause-pieces : goal.returns-clause-pieces
returns-clause-pieces g c rows jobs_of =
    renewed_jobs rows c.args.jobs.items c.load_links-worked.result.items c.in_ok-fresh.fresh.items c.load_links-worked.ensures
    c.in_ok-fresh.ensures.ok jobs_of

pub returns-clause-done : goal.returns-clause-done
returns-clause-done g c = renewed_done c.load_links-worked.result.items c.in_ok-fresh.fresh.items c.in_ok-fresh.ensures.ok
