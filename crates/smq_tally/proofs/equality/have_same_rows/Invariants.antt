use Rattle.std.proofs.Common.{◌≡◌, ◌<◌}
use Rattle.smq_tally.specs.declared.view.View.{View}
use Rattle.smq_tally.specs.Rows.{view_rank}
use Rattle.smq_tally.specs.Tables.{rows_of}
use Rattle.smq_tally.proofs.equality.have_same_rows.Given as goal

abbrev pub invariant-loop-view : goal.invariant-loop-view
invariant-loop-view l = (view : View) → view_rank view < l.view-index → rows_of l.these.shown view ≡ rows_of l.those.shown view
