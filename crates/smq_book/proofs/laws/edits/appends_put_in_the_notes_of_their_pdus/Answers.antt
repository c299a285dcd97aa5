use Rattle.smq_book.proofs.lemmas.edits.NotedAppends.{appended-notes}
use Rattle.smq_book.proofs.laws.edits.appends_put_in_the_notes_of_their_pdus.Goals as goal

pub returns : goal.returns
returns c = appended-notes
