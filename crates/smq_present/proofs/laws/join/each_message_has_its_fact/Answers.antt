use Rattle.smq_present.proofs.lemmas.join.MoveLemmas.{fact-at, fact-place}
use Rattle.smq_present.proofs.laws.join.each_message_has_its_fact.Goals as goal

pub returns-clause-each : goal.returns-clause-each
returns-clause-each c = fact-at

pub returns-clause-place : goal.returns-clause-place
returns-clause-place c = fact-place
