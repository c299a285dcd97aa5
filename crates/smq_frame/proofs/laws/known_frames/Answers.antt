use Rattle.smq_frame.proofs.KnownFrames.{known_frames}
use Rattle.smq_frame.proofs.laws.known_frames.Goals as goal

pub returns : goal.returns
returns c = known_frames
