use Rattle.std.proofs.Common.{take}
use Rattle.smq_desk.specs.within.Chunks.{AreShared}
use Rattle.smq_desk.proofs.history.share.Given as goal

abbrev pub invariant-loop-chunk : goal.invariant-loop-chunk
invariant-loop-chunk l = AreShared (take l.chunk-index l.chunks) l.shared.items
