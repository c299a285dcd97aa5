-- The rows so far are read and played.
use Rattle.std.proofs.Common.{List, [], ℕ}
use Rattle.smq_load.specs.NextRecord.{HasGiven}
use Rattle.smq_engine.specs.within.Plays.{HasPlayedRows}
use Rattle.smq_engine.proofs.row_stream.play_records.Given as goal

abbrev pub invariant-loop-number : goal.invariant-loop-number
invariant-loop-number g l =
    let remaining = g.R.Read.remaining in
    (text : List ℕ) → HasGiven remaining l.fn.reader text []
    → HasPlayedRows remaining l.reader text l.fn.book.present l.book.present l.refused.items l.number
