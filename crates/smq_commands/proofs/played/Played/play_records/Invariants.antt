-- The rows so far are read, played and set.
use Rattle.std.proofs.Common.{◌≡◌, List, [], ℕ}
use Rattle.smq_load.specs.NextRecord.{HasGiven}
use Rattle.smq_deal.specs.Texts.{sets_of}
use Rattle.smq_commands.specs.Played.{HasPlayedSets}
use Rattle.smq_commands.proofs.played.Played.play_records.Given as goal

abbrev pub invariant-loop-number : goal.invariant-loop-number
invariant-loop-number g l =
    let remaining = g.R.Read.remaining in
    (text : List ℕ) → HasGiven remaining l.fn.reader text [] → l.fn.self.refused.items ≡ []
    → HasPlayedSets remaining l.reader text l.fn.self.book.present l.self.book.present l.self.refused.items
    (sets_of l.fn.self.head) (sets_of l.self.head) l.number
