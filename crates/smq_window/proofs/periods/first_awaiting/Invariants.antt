use Rattle.std.proofs.Common.{◌≡◌, ℕ, ◌<◌, false, slice_index_or}
use Rattle.smq_window.specs.declared.periods.Period.{Period}
use Rattle.smq_window.specs.within.Kept.{awaits_from}
use Rattle.smq_window.proofs.periods.first_awaiting.Given as goal

abbrev pub invariant-loop-index : goal.invariant-loop-index
invariant-loop-index l =
    (k : ℕ) (d : Period) → k < l.index → awaits_from l.oldest l.exchange (slice_index_or l.periods k d) ≡ false
