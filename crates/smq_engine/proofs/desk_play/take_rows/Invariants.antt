-- The rows so far are taken.
use Rattle.std.proofs.Common.{◌≡◌, ◌++◌, List}
use Rattle.std.specs.Vec.Iter.{into_iter_items}
use Rattle.smq_load.specs.declared.record.Row.{Row}
use Rattle.smq_engine.specs.Workers.{edits_of_calls, plain_edits}
use Rattle.smq_engine.specs.within.Jobs.{AreJobsOf, AreReady}
use Rattle.smq_engine.proofs.desk_play.take_rows.Given as goal

abbrev pub invariant-loop-row : goal.invariant-loop-row
invariant-loop-row g l = record {
  taken : List Row;
  all : taken ++ into_iter_items l.row-iterator ≡ l.fn.rows.items;
  ready : AreReady l.jobs.items;
  plain : edits_of_calls l.first.calls ≡ edits_of_calls l.fn.first.calls ++ plain_edits taken;
  pieces : (before : List Row) → AreJobsOf before l.fn.jobs.items → AreJobsOf (before ++ taken) l.jobs.items;
}
