use Rattle.smq_streams.proofs.KnownCalls.{known_calls}
use Rattle.smq_streams.proofs.laws.known_calls.Goals as goal

pub returns : goal.returns
returns c = known_calls
