use Rattle.smq_reassembly.proofs.Moments.{completes}
use Rattle.smq_reassembly.proofs.laws.given_at_completion.Goals as goal

pub returns : goal.returns
returns c = completes
