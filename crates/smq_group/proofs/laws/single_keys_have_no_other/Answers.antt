use Rattle.smq_group.proofs.MatchingLemmas.{alone}
use Rattle.smq_group.proofs.laws.single_keys_have_no_other.Goals as goal

pub returns : goal.returns
returns c = alone
