-- The edits so far are applied, and what is left goes on from there to what all edits come to. There is room for its answers.
use Rattle.std.proofs.Common.{◌+◌, ◌≤◌, length}
use Rattle.std.specs.Vec.Iter.{into_iter_items}
use Rattle.std.specs.Vec.{vec_len, vec_capacity}
use Rattle.smq_present.proofs.lemmas.present.Folded.{Folds}
use Rattle.smq_book.proofs.whole.book.Book.apply_all.Given as goal

abbrev pub invariant-loop-edit : goal.invariant-loop-edit
invariant-loop-edit l = record {
  folds : Folds l.fn.self.present l.self.present l.fn.edits.items (into_iter_items l.edit-iterator) l.answers.items;
  room : vec_len l.answers + length (into_iter_items l.edit-iterator) ≤ vec_capacity l.answers;
}
