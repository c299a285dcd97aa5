use Rattle.smq_receipt.proofs.KnownReceipts.{known}
use Rattle.smq_receipt.proofs.laws.readings_of_known_receipts.Goals as goal

pub returns : goal.returns
returns c = known
