-- A row of the table of states without where its word lies in memory.
use Rattle.smq_receipt.specs.States.{StateRow}
use Rattle.smq_receipt.specs.declared.message_state.Row.{Row}

abbrev pub seen_row : Row → StateRow
seen_row row = record { number = row.number; word = row.word.now; final = row.is_final }
