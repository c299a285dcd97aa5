use Rattle.smq_streams.proofs.OneFramer.{one_framer}
use Rattle.smq_streams.proofs.laws.one_framer.Goals as goal

pub returns : goal.returns
returns c = one_framer
