use Rattle.std.proofs.Common.{ap, sym, ◌∙◌}
use Rattle.smq_kit.specs.Maps.{set_at}
use Rattle.smq_book.specs.index.Held.{dues_in, noted}
use Rattle.smq_book.proofs.lemmas.index.Due.{due-gone, due-stored}
use Rattle.smq_book.proofs.index.index.set_due.Goals as goal

pub returns-then-is_due-clause-value : goal.returns-then-is_due-clause-value
returns-then-is_due-clause-value c =
    ap dues_in c.in_ok-set.ensures.content
    ∙ due-stored c.args.due.now.content c.args.key
    ∙ ap (λ b. set_at (dues_in c.args.due.now.content) c.args.key (noted b)) (sym c.if-is_due.true)

pub returns-clause-value : goal.returns-clause-value
returns-clause-value c =
    ap dues_in c.in_ok-remove.ensures.content
    ∙ due-gone c.args.due.now.content c.args.key c.in_ok-remove.ensures.ordered
    ∙ ap (λ b. set_at (dues_in c.args.due.now.content) c.args.key (noted b)) (sym c.if-is_due.false)
