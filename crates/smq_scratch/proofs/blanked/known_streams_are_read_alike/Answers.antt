use Rattle.smq_scratch.proofs.KnownBlanked.{moment-apart, stream-alike}
use Rattle.smq_scratch.proofs.blanked.known_streams_are_read_alike.Goals as goal

pub returns-clause-alike : goal.returns-clause-alike
returns-clause-alike c = stream-alike

pub returns-clause-moment : goal.returns-clause-moment
returns-clause-moment c = moment-apart
