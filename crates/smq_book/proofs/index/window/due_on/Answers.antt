use Rattle.std.proofs.Common.{◌∙◌}
use Rattle.smq_book.proofs.lemmas.index.Walks.{filled-on}
use Rattle.smq_book.proofs.index.window.due_on.Goals as goal

pub returns-clause-value : goal.returns-clause-value
returns-clause-value c =
    c.in_ok-keys.ensures.value ∙ filled-on c.args.link _ c.args.due.now.places c.keys_in.ensures.content c.keys_in.ensures.ordered
