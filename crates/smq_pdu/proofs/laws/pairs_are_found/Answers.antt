use Rattle.smq_pdu.proofs.Pairs.{finds_pairs, finds_each, has_one_request, finds_in_turn}
use Rattle.smq_pdu.proofs.laws.pairs_are_found.Goals as goal

pub returns-clause-found : goal.returns-clause-found
returns-clause-found c = finds_pairs

pub returns-clause-each : goal.returns-clause-each
returns-clause-each c = finds_each

pub returns-clause-one : goal.returns-clause-one
returns-clause-one c = has_one_request

pub returns-clause-in_turn : goal.returns-clause-in_turn
returns-clause-in_turn c = finds_in_turn
