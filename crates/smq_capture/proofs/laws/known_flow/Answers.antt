use Rattle.smq_capture.proofs.KnownFlow.{known_flow}
use Rattle.smq_capture.proofs.laws.known_flow.Goals as goal

pub returns : goal.returns
returns c = known_flow
