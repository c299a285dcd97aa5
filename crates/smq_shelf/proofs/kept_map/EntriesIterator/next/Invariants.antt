use Rattle.std.proofs.Common.{◌≡◌, length}
use Rattle.smq_shelf.specs.Places.{content_of}
use Rattle.smq_shelf.proofs.kept_map.EntriesIterator.next.Given as goal

abbrev pub invariant-loop-key : goal.invariant-loop-key
invariant-loop-key g l = content_of l.self-inside.left ≡ content_of l.initial.self-inside.left

abbrev pub decreases-loop-key : goal.decreases-loop-key
decreases-loop-key g l = length l.self-inside.left
