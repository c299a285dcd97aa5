use Rattle.smq_receipt.proofs.Standing.{finds_patterns}
use Rattle.smq_receipt.proofs.laws.patterns_are_found.Goals as goal

pub returns : goal.returns
returns c = finds_patterns
