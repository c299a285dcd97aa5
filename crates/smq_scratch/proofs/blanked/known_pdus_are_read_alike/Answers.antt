use Rattle.smq_scratch.proofs.KnownBlanked.{data-sm-stays, destination-apart, message-stays, password-stays, receipt-stays, state-apart, submit-stays}
use Rattle.smq_scratch.proofs.blanked.known_pdus_are_read_alike.Goals as goal

pub returns-clause-submit : goal.returns-clause-submit
returns-clause-submit c = submit-stays

pub returns-clause-destination : goal.returns-clause-destination
returns-clause-destination c = destination-apart

pub returns-clause-message : goal.returns-clause-message
returns-clause-message c = message-stays

pub returns-clause-receipt : goal.returns-clause-receipt
returns-clause-receipt c = receipt-stays

pub returns-clause-state : goal.returns-clause-state
returns-clause-state c = state-apart

pub returns-clause-data_sm : goal.returns-clause-data_sm
returns-clause-data_sm c = data-sm-stays

pub returns-clause-password : goal.returns-clause-password
returns-clause-password c = password-stays
