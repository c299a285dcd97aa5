use Rattle.std.proofs.Common.{◌<◌, length, arith}
use Rattle.smq_deal.proofs.Dealing.{part-pushed}
use Rattle.smq_deal.proofs.keys.parts_of.Goals as goal

pub loop-index-preserved : goal.loop-index-preserved
loop-index-preserved g c =
    let side = c.args.side.now in
    let h : c.loop-index.index < length side.pdus.now = omega (arith, c.loop-index-test.true) in
    part-pushed (g.R.Rule.rule c.args.rule.now) c.args.source side.dir side.pdus.now side.other.now c.loop-index.index
    c.index-pdus-index.result h c.index-pdus-index.is c.loop-index.parts.items c.push.new.self.items c.part_at.result
    c.loop-index.invariant c.part_at.ensures c.in_ok-push.ensures.items
