use Rattle.std.proofs.Common.{sym, ◌∙◌}
use Rattle.smq_frame.proofs.Streams.{tail_of-nil}
use Rattle.smq_present.proofs.present.plain_book.PlainBook.new.Goals as goal

pub invariant_of-result : goal.invariant_of-result
invariant_of-result c = c.at.ensures ∙ sym tail_of-nil
