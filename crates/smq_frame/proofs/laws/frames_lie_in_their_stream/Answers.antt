use Rattle.smq_frame.proofs.Streams.{frames_lie}
use Rattle.smq_frame.proofs.laws.frames_lie_in_their_stream.Goals as goal

pub returns : goal.returns
returns c = frames_lie
