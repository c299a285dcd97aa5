use Rattle.std.proofs.Common.{None, false, refl, sym, ap, ◌∙◌}
use Rattle.smq_tally.specs.declared.fact.Fact.{Fact}
use Rattle.smq_book.specs.edits.Reached.{is_due}
use Rattle.smq_present.specs.join.Circumstances.{circumstances_by, route_in}
use Rattle.smq_present.specs.join.Facts.{fact_in_circumstances}
use Rattle.smq_present.specs.join.Keyed.{accepted_key}
use Rattle.smq_book.proofs.lemmas.index.Unaccepted.{refused-fact, refused-undue}
use Rattle.smq_book.proofs.index.index.fact_of_unaccepted.Goals as goal

pub returns-clause-value : goal.returns-clause-value
returns-clause-value c = λ s t versions refused there.
    let m = c.args.message.now in
    let said = c.message-said.ensures in
    let route = c.route-route.ensures ∙ (λ i. route_in (sym versions i) (said i)) in
    refused-fact s m refused t c.args.place c.fact_from_parts.result there
    (c.fact_from_parts.ensures.value None refl ∙ (λ i. fact_in_circumstances c.args.place (said i) (circumstances_by None None (route i) false)))

pub returns-clause-due : goal.returns-clause-due
returns-clause-due c = λ s refused.
    ap (λ (f : Fact). is_due f.outcome) (c.fact_from_parts.ensures.value None refl)
    ∙ refused-undue s c.message-said.result (ap (accepted_key s) c.message-said.ensures ∙ refused) (circumstances_by None None c.route-route.result false)
