use Rattle.smq_pdu.proofs.Mandatory.{mandatory_found, mandatory_again, data_sm_fields_found, data_sm_fields_again}
use Rattle.smq_pdu.proofs.laws.fields_are_read.Goals as goal

pub returns-clause-found : goal.returns-clause-found
returns-clause-found c = mandatory_found

pub returns-clause-again : goal.returns-clause-again
returns-clause-again c = mandatory_again

pub returns-clause-data_sm_found : goal.returns-clause-data_sm_found
returns-clause-data_sm_found c = data_sm_fields_found

pub returns-clause-data_sm_again : goal.returns-clause-data_sm_again
returns-clause-data_sm_again c = data_sm_fields_again
