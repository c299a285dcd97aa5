use Rattle.std.proofs.Common.{◌≡◌, ◌++◌, ◌∷◌, [], length}
use Rattle.smq_count.specs.Counts.{with_commas}
use Rattle.smq_count.proofs.counting.columns_in.Given as goal

abbrev pub invariant-loop-name : goal.invariant-loop-name
invariant-loop-name l = with_commas l.columns.items ++ l.rest ++ 44 ∷ [] ≡ l.text ++ 44 ∷ []

abbrev pub decreases-loop-name : goal.decreases-loop-name
decreases-loop-name l = length l.rest
