use Rattle.smq_pair.proofs.Ranked.{finds-pairs, finds-each-pair}
use Rattle.smq_pair.proofs.laws.pairs_are_by_rank.Goals as goal

pub returns-clause-found : goal.returns-clause-found
returns-clause-found c = finds-pairs

pub returns-clause-each : goal.returns-clause-each
returns-clause-each c = finds-each-pair
