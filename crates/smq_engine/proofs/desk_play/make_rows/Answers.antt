use Rattle.std.proofs.Common.{◌++◌, []}
use Rattle.smq_engine.proofs.WorkerLemmas.{have_made_both}
use Rattle.smq_engine.proofs.desk_play.make_rows.Goals as goal

pub returns-clause-ok : goal.returns-clause-ok
returns-clause-ok g c =
    let rows = c.args.settings_rows.items in
    let more = c.args.rows.items in
    have_made_both rows more c.in_ok-first.first c.take_rows-2.new.first c.in_ok-seats_of.field-0.items c.in_ok-jobs-4.jobs.items
    c.in_ok-first.ensures.calls c.take_rows.new.first c.in_ok-jobs-2.ensures.plain c.in_ok-jobs-3.ensures.plain c.in_ok-jobs-4.ensures.ready
    (c.in_ok-jobs-4.ensures.pieces (rows ++ more)
    (c.in_ok-jobs-3.ensures.pieces rows (c.in_ok-jobs-2.ensures.pieces [] c.in_ok-jobs.ensures.pieces)))
    c.in_ok-jobs-4.ensures.done c.in_ok-seats_of.ensures
