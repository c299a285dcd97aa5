use Rattle.smq_present.proofs.lemmas.join.ReceiptNotes.{notes-outside, moved-notes, receipt-changes-cover}
use Rattle.smq_present.proofs.laws.join.notes_follow_the_standings_of_receipts.Goals as goal

pub returns : goal.returns
returns c = record { outside = notes-outside; patched = moved-notes; changes = receipt-changes-cover }
