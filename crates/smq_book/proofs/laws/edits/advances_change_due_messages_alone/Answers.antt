use Rattle.std.proofs.Common.{refl}
use Rattle.smq_book.proofs.lemmas.edits.Advances.{due-outside, none-due, due-lapse}
use Rattle.smq_book.proofs.laws.edits.advances_change_due_messages_alone.Goals as goal

pub returns : goal.returns
returns c = record { due = due-outside; none = none-due; lapse = due-lapse; notes = λ s t clock. refl }
