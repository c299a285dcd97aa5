use Rattle.std.proofs.Common.{sym, ◌∙◌}
use Rattle.smq_frame.proofs.Streams.{tail_of-nil}
use Rattle.smq_book.proofs.lemmas.index.KeptPairs.{kept-nothing}
use Rattle.smq_book.proofs.whole.indexed_book.IndexedBook.new.Goals as goal

pub invariant_of-result : goal.invariant_of-result
invariant_of-result c = (
  c.at.ensures ∙ sym tail_of-nil,
  kept-nothing c.new.result c.new-2.result c.new-3.result c.new.ensures c.new-2.ensures.held c.new-2.ensures.settled
      c.new-3.ensures.now c.new-3.ensures.settled c.new-2.ensures.pending c.new-3.ensures.pending,
)
