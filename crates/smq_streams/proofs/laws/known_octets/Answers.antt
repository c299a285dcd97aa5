use Rattle.smq_streams.proofs.KnownOctets.{known_headers, known_sights, known_frames}
use Rattle.smq_streams.proofs.laws.known_octets.Goals as goal

pub returns-clause-headers : goal.returns-clause-headers
returns-clause-headers c = known_headers

pub returns-clause-sights : goal.returns-clause-sights
returns-clause-sights c = known_sights

pub returns-clause-frames : goal.returns-clause-frames
returns-clause-frames c = known_frames
