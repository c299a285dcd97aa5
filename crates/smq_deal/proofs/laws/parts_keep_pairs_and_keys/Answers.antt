use Rattle.smq_deal.proofs.KeysKept.{keys-kept}
use Rattle.smq_deal.proofs.PairsKept.{pairs-kept}
use Rattle.smq_deal.proofs.laws.parts_keep_pairs_and_keys.Goals as goal

pub returns-clause-pairs : goal.returns-clause-pairs
returns-clause-pairs c = pairs-kept

pub returns-clause-keys : goal.returns-clause-keys
returns-clause-keys c = keys-kept
