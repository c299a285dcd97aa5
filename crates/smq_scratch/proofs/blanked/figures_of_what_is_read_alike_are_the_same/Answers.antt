use Rattle.smq_scratch.proofs.BlankedPresent.{message-lines-stay, receipt-lines-stay, tables-stay}
use Rattle.smq_scratch.proofs.blanked.figures_of_what_is_read_alike_are_the_same.Goals as goal

pub returns-clause-tables : goal.returns-clause-tables
returns-clause-tables c = tables-stay

pub returns-clause-messages : goal.returns-clause-messages
returns-clause-messages c = message-lines-stay

pub returns-clause-receipts : goal.returns-clause-receipts
returns-clause-receipts c = receipt-lines-stay
