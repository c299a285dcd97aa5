use Rattle.smq_frame.proofs.Streams.{stream_grows}
use Rattle.smq_frame.proofs.laws.stream_grows.Goals as goal

pub returns : goal.returns
returns c = stream_grows
