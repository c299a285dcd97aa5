use Rattle.std.proofs.Common.{◌≡◌, ◌++◌, length}
use Rattle.std.specs.Option.{option_map}
use Rattle.std.specs.Map.Iter.{deref_pair}
use Rattle.smq_tally.specs.within.RowCounts.{begun_left, shown_among}
use Rattle.smq_tally.proofs.rows.RowsIterator.next.Given as goal

abbrev pub invariant-loop-self : goal.invariant-loop-self
invariant-loop-self l =
    begun_left (option_map deref_pair l.self-inside.begun) l.self-inside.outcomes.now ++ shown_among l.self-inside.left
    ≡ begun_left (option_map deref_pair l.initial.self-inside.begun) l.initial.self-inside.outcomes.now ++ shown_among l.initial.self-inside.left

abbrev pub decreases-loop-self : goal.decreases-loop-self
decreases-loop-self l = length l.self-inside.left
