use Rattle.smq_reassembly.proofs.KnownStreams.{known_streams}
use Rattle.smq_reassembly.proofs.laws.known_streams.Goals as goal

pub returns-clause-streams : goal.returns-clause-streams
returns-clause-streams c = known_streams
