use Rattle.std.proofs.Common.{◌≡◌, ◌∷◌, length, rules}
use Rattle.std.specs.Vec.Iter.{into_iter_items}
use Rattle.smq_present.proofs.lemmas.present.Folded.{folds-last}
use Rattle.smq_book.proofs.whole.book.Book.apply_all.Goals as goal

pub returns-clause-answers : goal.returns-clause-answers
returns-clause-answers c =
    let none : length (into_iter_items c.loop-edit.edit-iterator) ≡ 0 = search rules in
    let all = folds-last c.args.self.now.present c.loop-edit.self.present c.args.edits.items
    (into_iter_items c.loop-edit.edit-iterator) c.loop-edit.answers.items none c.loop-edit.invariant.folds in
    all.0

pub returns-clause-present : goal.returns-clause-present
returns-clause-present c =
    let none : length (into_iter_items c.loop-edit.edit-iterator) ≡ 0 = search rules in
    let all = folds-last c.args.self.now.present c.loop-edit.self.present c.args.edits.items
    (into_iter_items c.loop-edit.edit-iterator) c.loop-edit.answers.items none c.loop-edit.invariant.folds in
    all.1
