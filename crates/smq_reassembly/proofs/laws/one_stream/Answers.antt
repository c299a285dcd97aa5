use Rattle.smq_reassembly.proofs.States.{one}
use Rattle.smq_reassembly.proofs.laws.one_stream.Goals as goal

pub returns : goal.returns
returns c = one
