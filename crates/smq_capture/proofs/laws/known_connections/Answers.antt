use Rattle.smq_capture.proofs.KnownConnections.{known_connections, known_numbers}
use Rattle.smq_capture.proofs.laws.known_connections.Goals as goal

pub returns-clause-numbers : goal.returns-clause-numbers
returns-clause-numbers c = known_numbers

pub returns-clause-connections : goal.returns-clause-connections
returns-clause-connections c = known_connections
