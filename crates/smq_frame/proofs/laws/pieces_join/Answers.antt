use Rattle.smq_frame.proofs.Streams.{pieces_join}
use Rattle.smq_frame.proofs.laws.pieces_join.Goals as goal

pub returns : goal.returns
returns c = pieces_join
