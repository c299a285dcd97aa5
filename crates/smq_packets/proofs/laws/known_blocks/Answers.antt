use Rattle.smq_packets.proofs.KnownValues.{known_blocks}
use Rattle.smq_packets.proofs.laws.known_blocks.Goals as goal

pub returns : goal.returns
returns c = known_blocks
