use Rattle.std.proofs.Common.{◌<◌, length, arith}
use Rattle.std.proofs.lemmas.Grind.{common_steps}
use Rattle.smq_present.proofs.lemmas.pairing.PushedMessages.{enumerate_more}
use Rattle.smq_present.proofs.pairing.submits.push_submits.Goals as goal

pub loop-index-preserved : goal.loop-index-preserved
loop-index-preserved c =
    let h : c.loop-index.index < length c.args.side.now.pdus.now = omega (arith, c.loop-index-test.true) in
    let next = enumerate_more c.args.side.now.pdus.now c.loop-index.index c.index-pdus-index.result h c.index-pdus-index.is in
    grind (arith, common_steps, next)
