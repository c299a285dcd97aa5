use Rattle.std.proofs.Common.{Some, refl, ap, ◌∙◌}
use Rattle.smq_route.specs.within.Kept.{versions_in}
use Rattle.smq_route.specs.Edits.{end_refusals, ending}
use Rattle.smq_route.proofs.Edited.{at_known, at_refused, at_absent}
use Rattle.smq_route.proofs.routes.end_in.Goals as goal

pub returns-in_default-clause-answer : goal.returns-in_default-clause-answer
returns-in_default-clause-answer c =
    at_absent (λ o. end_refusals o c.args.from c.args.until) (ending c.args.until) c.args.versions.now.content (versions_in c.args.versions.now)
    c.copy.result c.args.prefix.now c.args.from _ c.copy.ensures.value c.in_default.ensures (refl, refl)

pub returns-in-Ok-clause-answer : goal.returns-in-Ok-clause-answer
returns-in-Ok-clause-answer c =
    at_known (λ o. end_refusals o c.args.from c.args.until) (ending c.args.until) c.args.versions.now.content (versions_in c.insert.new.versions)
    c.copy.result c.args.prefix.now c.args.from c.copy-ended.result c.end.new.self c.in-Ok.field-0 _ c.copy.ensures.value
    (ap Some c.copy-ended.ensures ∙ c.in-Some.ensures) c.in-Ok.ensures c.insert.ensures.answer

pub returns-in-Err-clause-answer : goal.returns-in-Err-clause-answer
returns-in-Err-clause-answer c =
    at_refused _ _ (λ o. end_refusals o c.args.from c.args.until) (ending c.args.until) c.args.versions.now.content
    c.copy.result c.args.prefix.now c.args.from c.copy-ended.result c.end.new.self _ c.copy.ensures.value
    (ap Some c.copy-ended.ensures ∙ c.in-Some.ensures) c.in-Err.ensures
