use Rattle.std.proofs.Common.{◌≡◌}
use Rattle.std.specs.Cmp.Lexicographic.{pointwise}
use Rattle.smq_tally.specs.within.Equal.{both_eq}
use Rattle.smq_tally.proofs.equality.have_same_entries.Given as goal

abbrev pub invariant-loop-key : goal.invariant-loop-key
invariant-loop-key g l =
    pointwise (both_eq g.K.PartialEq.eq g.V.PartialEq.eq) l.these l.those ≡ pointwise (both_eq g.K.PartialEq.eq g.V.PartialEq.eq) l.initial.these
    l.initial.those
