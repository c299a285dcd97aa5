-- The records so far are played, and all is said of them.
use Rattle.std.proofs.Common.{◌≡◌, List, [], ℕ}
use Rattle.smq_present.specs.present.Present.{empty}
use Rattle.smq_load.specs.declared.record.Row as rows
use Rattle.smq_load.specs.NextRecord.{HasGiven}
use Rattle.smq_engine.specs.Play.{after_rows}
use Rattle.smq_engine.specs.Followed.{held}
use Rattle.smq_engine.specs.within.Steps.{AreBelow, HasPlayed}
use Rattle.smq_engine.proofs.feed.follow_records.Given as goal

abbrev pub invariant-loop-number : goal.invariant-loop-number
invariant-loop-number g l =
    let remaining = g.R.Read.remaining in
    let answered = g.W.Write.contents in
    let told = g.E.Write.contents in
    record {
      few : AreBelow l.number l.totals;
      played : (text : List ℕ) → (settings_rows : List rows.Row) → HasGiven remaining l.fn.reader text []
          → l.fn.book.present ≡ after_rows empty settings_rows
          → HasPlayed remaining l.reader text l.format settings_rows l.book.present l.totals l.number
          (held (answered l.fn.writer) (answered l.writer) (told l.fn.errors) (told l.errors));
    }
