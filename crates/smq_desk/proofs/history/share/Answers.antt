use Rattle.smq_desk.proofs.Chunking.{shares}
use Rattle.smq_desk.proofs.history.share.Goals as goal

pub loop-chunk-preserved : goal.loop-chunk-preserved
loop-chunk-preserved c = shares c.args.chunks.now c.loop-chunk.shared.items c.push.new.self.items c.loop-chunk.chunk-index c.chunk-item.result c.in_ok-try_clone.field-0 c.loop-chunk-test.true c.chunk-item.is c.in_ok-try_clone.ensures c.in_ok-push.ensures.items c.loop-chunk.invariant
