use Rattle.std.proofs.Common.{ap, sym, ◌∙◌}
use Rattle.smq_kit.specs.Maps.{set_at}
use Rattle.smq_book.specs.index.Held.{ends_in, noted}
use Rattle.smq_book.proofs.lemmas.index.Ends.{end-gone, end-stored}
use Rattle.smq_book.proofs.index.index.set_end.Goals as goal

pub returns-then-is_due-clause-value : goal.returns-then-is_due-clause-value
returns-then-is_due-clause-value c =
    ap ends_in c.in_ok-set.ensures.content
    ∙ end-stored c.args.ends.now.content c.args.key
    ∙ ap (λ b. set_at (ends_in c.args.ends.now.content) c.args.key (noted b)) (sym c.if-is_due.true)

pub returns-clause-value : goal.returns-clause-value
returns-clause-value c =
    ap ends_in c.in_ok-remove.ensures.content
    ∙ end-gone c.args.ends.now.content c.args.key c.in_ok-remove.ensures.ordered
    ∙ ap (λ b. set_at (ends_in c.args.ends.now.content) c.args.key (noted b)) (sym c.if-is_due.false)
