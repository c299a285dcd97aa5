use Rattle.smq_scratch.proofs.LineLaws.{receipts-of-lines}
use Rattle.smq_scratch.proofs.laws.receipt_lines_give_the_lists.Goals as goal

pub returns : goal.returns
returns c = receipts-of-lines
