use Rattle.std.proofs.Common.{sym, ap, ◌∙◌, Some}
use Rattle.smq_shelf.proofs.Walks.{told-found, told-none, told-other}
use Rattle.smq_group.proofs.CandidateWalks.{next-narrows}
use Rattle.smq_group.proofs.candidates.place_after.Goals as goal

pub returns-then-is_one_key-clause-value : goal.returns-then-is_one_key-clause-value
returns-then-is_one_key-clause-value c =
    ap (λ m. Some (m, c.copied.result)) c.copy.ensures
    ∙ told-found (next-narrows c.args.key.now c.args.after.now c.requires) c.args.candidates.now.places c.in-Some.ensures.ordered (c.in-Some.next.now, c.copied.result)
    (ap (λ x. Some (c.in-Some.next.now, x)) c.copied.ensures ∙ c.in-Some.ensures.value) (sym c.is_one_key.ensures ∙ c.if-is_one_key.true)

pub returns-else-is_one_key-clause-value : goal.returns-else-is_one_key-clause-value
returns-else-is_one_key-clause-value c =
    told-other (next-narrows c.args.key.now c.args.after.now c.requires) c.args.candidates.now.places c.in-Some.ensures.ordered (c.in-Some.next.now, _)
    c.in-Some.ensures.value (sym c.is_one_key.ensures ∙ c.if-is_one_key.false)

pub returns-in-None-clause-value : goal.returns-in-None-clause-value
returns-in-None-clause-value c =
    told-none (next-narrows c.args.key.now c.args.after.now c.requires) c.args.candidates.now.places c.in-None.ensures.ordered c.in-None.ensures.value
