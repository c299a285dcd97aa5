use Rattle.std.proofs.Common.{◌≡◌, ◌<◌, length, vec_len}
use Rattle.std.specs.List.{All}
use Rattle.smq_pair.specs.within.Stream.{Ascend, undone}
use Rattle.smq_pair.proofs.stream.Stream.undo.Given as goal

abbrev pub invariant-loop-index : goal.invariant-loop-index
invariant-loop-index l = record {
  left : undone l.self-inside.log.items l.self-inside.entries.items ≡ l.fn.self.settled;
  ascended : Ascend l.fn.self.settled;
  settled : l.self-inside.settled ≡ length l.self-inside.entries.items;
  logged : All (λ c. c.0 < l.self-inside.settled) l.self-inside.log.items;
}

abbrev pub decreases-loop-index : goal.decreases-loop-index
decreases-loop-index l = vec_len l.self-inside.log
