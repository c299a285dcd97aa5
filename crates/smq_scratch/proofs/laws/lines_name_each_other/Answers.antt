use Rattle.smq_scratch.proofs.NamedLines.{messages-named, receipts-named}
use Rattle.smq_scratch.proofs.laws.lines_name_each_other.Goals as goal

pub returns-clause-receipts : goal.returns-clause-receipts
returns-clause-receipts c = λ p line named among is. receipts-named p line named among is

pub returns-clause-messages : goal.returns-clause-messages
returns-clause-messages c = λ p line among is. messages-named p line among is
