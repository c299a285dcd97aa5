use Rattle.smq_pdu.proofs.BodyLaws.{says_response, response_says, says_no_id, no_id_says}
use Rattle.smq_pdu.proofs.MessageIds.{first_stands, first_again}
use Rattle.smq_pdu.proofs.laws.responses_are_read.Goals as goal

pub returns-clause-id : goal.returns-clause-id
returns-clause-id c = λ octets id. (says_response octets id, response_says octets id)

pub returns-clause-no_id : goal.returns-clause-no_id
returns-clause-no_id c = λ octets. (says_no_id octets, no_id_says octets)

pub returns-clause-text : goal.returns-clause-text
returns-clause-text c = first_stands

pub returns-clause-unique : goal.returns-clause-unique
returns-clause-unique c = first_again
