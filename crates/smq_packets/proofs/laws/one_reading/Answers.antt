use Rattle.smq_packets.proofs.OneReading.{one_reading}
use Rattle.smq_packets.proofs.laws.one_reading.Goals as goal

pub returns : goal.returns
returns c = one_reading
