use Rattle.smq_desk.proofs.LeastLemmas.{least-none, least-next}
use Rattle.smq_desk.proofs.matching.least_of.Goals as goal

pub loop-call-init : goal.loop-call-init
loop-call-init c = least-none c.args.number

pub loop-call-preserved : goal.loop-call-preserved
loop-call-preserved c = least-next c.args.number c.args.calls.now c.loop-call.call-index c.call-item.result c.loop-call.least c.lesser-least.result c.loop-call-test.true c.call-item.is c.lesser-least.ensures c.loop-call.invariant
