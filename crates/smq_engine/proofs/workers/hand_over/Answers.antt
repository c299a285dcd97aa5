use Rattle.std.proofs.Common.{◌≡◌, ◌<◌, ◌%◌, Some, refl, sym, arith}
use Rattle.std.specs.Prelude.{slice_get}
use Rattle.std.proofs.lemmas.Option.{slice_get_read}
use Rattle.smq_engine.proofs.WorkerLemmas.{handed_over}
use Rattle.smq_engine.proofs.workers.hand_over.Goals as goal

pub returns-clause-pieces : goal.returns-clause-pieces
returns-clause-pieces c rows jobs_of =
    let jobs = c.args.jobs.items in
    let worker = c.args.piece.session.0 % 8 in
    let job = c.index_mut-job.result.now in
    let below : worker < 8 = omega arith in
    let there : slice_get jobs worker ≡ Some job = slice_get_read jobs 8 worker job (sym c.requires.number) below c.index_mut-job.ensures.value in
    handed_over rows jobs worker job (record job { rows = c.push.new.self }) c.args.piece jobs_of there refl refl c.in_ok-push.ensures.items
