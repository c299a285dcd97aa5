use Rattle.std.proofs.Common.{sym, ap, ◌∙◌, Some}
use Rattle.smq_shelf.proofs.Walks.{told-found, told-none, told-other}
use Rattle.smq_group.proofs.Finding.{next-narrows}
use Rattle.smq_group.proofs.walks.next_of.Goals as goal

pub returns-then-is_like-clause-value : goal.returns-then-is_like-clause-value
returns-then-is_like-clause-value g c =
    ap (λ m. Some (m, c.copied.result)) c.copy.ensures
    ∙ told-found (next-narrows c.args.by_link c.args.key.now c.args.after.now c.requires) c.args.kept.now.places c.in-Some.ensures.ordered (c.in-Some.next.now, c.copied.result)
    (ap (λ x. Some (c.in-Some.next.now, x)) c.copied.ensures ∙ c.in-Some.ensures.value) (sym c.is_like.ensures ∙ c.if-is_like.true)

pub returns-else-is_like-clause-value : goal.returns-else-is_like-clause-value
returns-else-is_like-clause-value g c =
    told-other (next-narrows c.args.by_link c.args.key.now c.args.after.now c.requires) c.args.kept.now.places c.in-Some.ensures.ordered (c.in-Some.next.now, _)
    c.in-Some.ensures.value (sym c.is_like.ensures ∙ c.if-is_like.false)

pub returns-in-None-clause-value : goal.returns-in-None-clause-value
returns-in-None-clause-value g c =
    told-none (next-narrows c.args.by_link c.args.key.now c.args.after.now c.requires) c.args.kept.now.places c.in-None.ensures.ordered c.in-None.ensures.value
