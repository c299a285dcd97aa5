use Rattle.smq_book.proofs.lemmas.edits.InTurn.{facts-in-turn, notes-in-turn}
use Rattle.smq_book.proofs.laws.edits.moves_in_turn_change_what_each_changes.Goals as goal

pub returns : goal.returns
returns c = record { facts = facts-in-turn; notes = notes-in-turn }
