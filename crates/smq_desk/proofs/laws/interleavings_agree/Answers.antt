use Rattle.smq_desk.proofs.Interleaved.{interleavings_agree}
use Rattle.smq_desk.proofs.laws.interleavings_agree.Goals as goal

pub returns : goal.returns
returns c = interleavings_agree
