use Rattle.smq_scratch.proofs.LineCommands.{message-commands, receipt-commands}
use Rattle.smq_scratch.proofs.laws.lines_are_of_few_commands.Goals as goal

pub returns-clause-messages : goal.returns-clause-messages
returns-clause-messages c = message-commands

pub returns-clause-receipts : goal.returns-clause-receipts
returns-clause-receipts c = receipt-commands
