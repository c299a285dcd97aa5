use Rattle.std.proofs.Common.{ap, ◌∙◌}
use Rattle.smq_book.specs.index.Following.{with_note}
use Rattle.smq_book.proofs.lemmas.index.Newcomers.{noted-alone}
use Rattle.smq_book.proofs.index.index.list_receipt.Goals as goal

pub returns-then-is_new-clause-notes : goal.returns-then-is_new-clause-notes
returns-then-is_new-clause-notes c = λ alone.
    let n = c.args.tally.now.notes in
    let q = c.args.place in
    c.in_ok-note_in.ensures.notes
    ∙ ap (with_note n q) c.list_of-list.ensures
    ∙ noted-alone n q c.args.standing (alone (c.is_new.ensures c.if-is_new.true))
