use Rattle.smq_receipt.proofs.KnownReceipts.{limits}
use Rattle.smq_receipt.proofs.laws.known_limits.Goals as goal

pub returns : goal.returns
returns c = limits
