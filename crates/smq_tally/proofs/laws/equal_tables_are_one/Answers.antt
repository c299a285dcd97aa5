use Rattle.smq_tally.proofs.Equals.{equal-same}
use Rattle.smq_tally.proofs.laws.equal_tables_are_one.Goals as goal

pub returns : goal.returns
returns c = equal-same
