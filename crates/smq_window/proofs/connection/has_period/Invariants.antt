use Rattle.std.proofs.Common.{◌≡◌, ℕ, ◌<◌, slice_index_or}
use Rattle.smq_window.specs.declared.periods.Period.{Period}
use Rattle.smq_window.proofs.connection.has_period.Given as goal

abbrev pub invariant-loop-kept : goal.invariant-loop-kept
invariant-loop-kept l = (k : ℕ) (d : Period) → k < l.kept-index → (slice_index_or l.periods k d).number ≡ l.period → ⊥
