use Rattle.smq_packets.proofs.KnownValues.{known_records}
use Rattle.smq_packets.proofs.laws.known_records.Goals as goal

pub returns : goal.returns
returns c = known_records
