use Rattle.smq_frame.proofs.Tails.{tail_follows}
use Rattle.smq_frame.proofs.laws.frames_give_the_tail.Goals as goal

pub returns : goal.returns
returns c = tail_follows
