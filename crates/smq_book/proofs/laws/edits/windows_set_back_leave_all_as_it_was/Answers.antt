use Rattle.smq_book.proofs.lemmas.edits.WindowsAgain.{back, windows-back, facts-back, facts-opening}
use Rattle.smq_book.proofs.laws.edits.windows_set_back_leave_all_as_it_was.Goals as goal

pub returns : goal.returns
returns c = record { settings = back; windows = windows-back; facts = facts-back; opening = facts-opening }
