use Rattle.smq_pdu.proofs.PduEquals.{submits_decide, delivers_decide, data_sms_decide, pdus_decide}
use Rattle.smq_pdu.proofs.laws.pdus_are_told_apart.Goals as goal

pub returns-clause-submits : goal.returns-clause-submits
returns-clause-submits c = submits_decide

pub returns-clause-delivers : goal.returns-clause-delivers
returns-clause-delivers c = delivers_decide

pub returns-clause-data_sms : goal.returns-clause-data_sms
returns-clause-data_sms c = data_sms_decide

pub returns-clause-pdus : goal.returns-clause-pdus
returns-clause-pdus c = pdus_decide
