use Rattle.smq_reassembly.proofs.Moments.{one_given, gives_stream}
use Rattle.smq_reassembly.proofs.laws.one_given.Goals as goal

pub returns : goal.returns
returns c = record { one = one_given; stream = gives_stream }
