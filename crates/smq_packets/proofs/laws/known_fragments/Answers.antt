use Rattle.smq_packets.proofs.KnownValues.{known_fragments}
use Rattle.smq_packets.proofs.laws.known_fragments.Goals as goal

pub returns : goal.returns
returns c = known_fragments
