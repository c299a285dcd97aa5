use Rattle.smq_book.proofs.lemmas.edits.Withdrawals.{withdrawn}
use Rattle.smq_book.proofs.laws.edits.withdrawals_take_what_their_session_says.Goals as goal

pub returns : goal.returns
returns c = withdrawn
