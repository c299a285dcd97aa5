use Rattle.smq_packets.proofs.KnownValues.{known_segments}
use Rattle.smq_packets.proofs.laws.known_segments.Goals as goal

pub returns : goal.returns
returns c = known_segments
