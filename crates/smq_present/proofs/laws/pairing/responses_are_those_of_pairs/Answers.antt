use Rattle.smq_present.proofs.lemmas.pairing.PairLemmas.{pair-each, pair-found}
use Rattle.smq_present.proofs.laws.pairing.responses_are_those_of_pairs.Goals as goal

pub returns-clause-each : goal.returns-clause-each
returns-clause-each c = pair-each

pub returns-clause-found : goal.returns-clause-found
returns-clause-found c = pair-found
