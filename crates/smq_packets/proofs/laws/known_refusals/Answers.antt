use Rattle.smq_packets.proofs.KnownValues.{known_refusals}
use Rattle.smq_packets.proofs.laws.known_refusals.Goals as goal

pub returns : goal.returns
returns c = known_refusals
