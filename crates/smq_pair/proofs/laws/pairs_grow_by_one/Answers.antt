use Rattle.smq_pair.proofs.Grown.{grows}
use Rattle.smq_pair.proofs.laws.pairs_grow_by_one.Goals as goal

pub returns : goal.returns
returns c = grows
