use Rattle.smq_receipt.proofs.StateTable.{table}
use Rattle.smq_receipt.proofs.laws.states_are_the_table.Goals as goal

pub returns : goal.returns
returns c = table
