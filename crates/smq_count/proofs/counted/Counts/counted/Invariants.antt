use Rattle.std.proofs.Common.{◌≡◌, ◌++◌, map}
use Rattle.smq_count.specs.Counts.{count_fields, counted_fields}
use Rattle.smq_count.specs.within.Kept.{kept}
use Rattle.smq_count.proofs.counted.Counts.counted.Given as goal

-- what is written so far, and what is left, are all counts
abbrev pub invariant-loop-tuple : goal.invariant-loop-tuple
invariant-loop-tuple l =
    map counted_fields l.counted.items ++ map count_fields (kept l.tuple-iterator) ≡ map count_fields l.fn.self
