use Rattle.smq_book.proofs.lemmas.edits.AppendNotes.{notes-stay}
use Rattle.smq_book.proofs.laws.edits.appends_note_few_places.Goals as goal

pub returns : goal.returns
returns c = notes-stay
