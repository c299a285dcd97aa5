use Rattle.std.proofs.Common.{List, refl, sym, ap, ◌∙◌}
use Rattle.smq_frame.specs.Stream.{Octet}
use Rattle.smq_present.specs.present.Batch.{BatchValue}
use Rattle.smq_present.specs.present.Present.{direction}
use Rattle.smq_present.specs.present.Replies.{backward}
use Rattle.smq_present.proofs.lemmas.present.BatchReplies.{by-moment, made-or-wanting, told}
use Rattle.smq_present.proofs.present.session.Session.append_in_step.Goals as goal

pub returns-in-Some : goal.returns-in-Some
returns-in-Some c =
    let s = c.args.self.now in
    let b = c.args.batch in
    let octets = c.direction.ensures ∙ ap (λ (b : BatchValue). direction b.dir s) c.batch.view_is in
    told _ _ _ _ c.in-Some.refusal
    (by-moment s b (c.if-self-batch.false ∙ ap (λ (b : BatchValue). b.link.0) c.batch.view_is) c.requires.in_step
    ∙ ap (λ (octets : List Octet). backward octets b) (sym octets) ∙ sym c.backward.ensures ∙ c.in-Some.is) refl

pub returns : goal.returns
returns c =
    let s = c.args.self.now in
    let b = c.args.batch in
    let octets = c.direction.ensures ∙ ap (λ (b : BatchValue). direction b.dir s) c.batch.view_is in
    made-or-wanting _ _ _ c.put.result
    (by-moment s b (c.if-self-batch.false ∙ ap (λ (b : BatchValue). b.link.0) c.batch.view_is) c.requires.in_step
    ∙ ap (λ (octets : List Octet). backward octets b) (sym octets) ∙ sym c.backward.ensures ∙ c.in_default.is)
    c.put.ensures
