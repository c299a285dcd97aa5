use Rattle.smq_commands.proofs.laws.rows_are_read.Goals as goal
use Rattle.smq_commands.proofs.RowLemmas as rows

pub returns : goal.returns
returns c = record { rows = rows.rows_are_read }
