use Rattle.smq_frame.proofs.Octets.{stream_octets}
use Rattle.smq_frame.proofs.laws.frames_are_octets.Goals as goal

pub returns : goal.returns
returns c = stream_octets
