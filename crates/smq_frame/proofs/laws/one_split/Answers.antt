use Rattle.smq_frame.proofs.Streams.{has_one_split}
use Rattle.smq_frame.proofs.laws.one_split.Goals as goal

pub returns : goal.returns
returns c = has_one_split
