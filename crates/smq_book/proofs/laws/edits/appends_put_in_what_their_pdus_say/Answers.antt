use Rattle.smq_book.proofs.lemmas.edits.Appends.{appended}
use Rattle.smq_book.proofs.laws.edits.appends_put_in_what_their_pdus_say.Goals as goal

pub returns : goal.returns
returns c = appended
