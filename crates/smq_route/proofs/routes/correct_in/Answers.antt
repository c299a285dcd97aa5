use Rattle.std.proofs.Common.{Some, refl, ap, ◌∙◌}
use Rattle.smq_route.specs.within.Kept.{versions_in}
use Rattle.smq_route.specs.Edits.{correct_refusals, corrected}
use Rattle.smq_route.proofs.Edited.{at_known, at_absent}
use Rattle.smq_route.proofs.routes.correct_in.Goals as goal

pub returns-in_default-clause-answer : goal.returns-in_default-clause-answer
returns-in_default-clause-answer c =
    at_absent correct_refusals (corrected c.args.route c.args.network) c.args.versions.now.content (versions_in c.args.versions.now)
    c.copy.result c.args.prefix.now c.args.from _ c.copy.ensures.value c.in_default.ensures (refl, refl)

pub returns-clause-answer : goal.returns-clause-answer
returns-clause-answer c =
    at_known correct_refusals (corrected c.args.route c.args.network) c.args.versions.now.content (versions_in c.insert.new.versions)
    c.copy.result c.args.prefix.now c.args.from c.copy-version.result c.correct.new.self c.correct.result _ c.copy.ensures.value
    (ap Some c.copy-version.ensures ∙ c.in-Some.ensures) c.correct.ensures c.insert.ensures.answer
