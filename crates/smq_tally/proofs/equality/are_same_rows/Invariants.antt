use Rattle.std.proofs.Common.{◌≡◌}
use Rattle.std.specs.Cmp.Lexicographic.{pointwise}
use Rattle.smq_tally.specs.within.Equal.{same_shown}
use Rattle.smq_tally.proofs.equality.are_same_rows.Given as goal

abbrev pub invariant-loop-value : goal.invariant-loop-value
invariant-loop-value l = pointwise same_shown l.these l.those ≡ pointwise same_shown l.initial.these l.initial.those
