use Rattle.smq_receipt.proofs.Equalities.{receipts_decide, readings_decide}
use Rattle.smq_receipt.proofs.laws.readings_are_told_apart.Goals as goal

pub returns-clause-receipts : goal.returns-clause-receipts
returns-clause-receipts c = receipts_decide

pub returns-clause-readings : goal.returns-clause-readings
returns-clause-readings c = readings_decide
