use Rattle.std.proofs.Common.{◌++◌, ap, ◌∙◌}
use Rattle.std.specs.FinMap.{keys}
use Rattle.smq_group.specs.Links.{receipts_on, submits_on}
use Rattle.smq_group.specs.Matching.{Grouping}
use Rattle.smq_book.specs.index.Held.{Holding, held_now, traffic_held}
use Rattle.smq_book.proofs.lemmas.index.Accepted.{accepted-keys, received-keys}
use Rattle.smq_book.proofs.index.forms.places_on.Goals as goal

pub returns-clause-value : goal.returns-clause-value
returns-clause-value c = λ s held.
    let g = held_now c.args.index.now in
    let messages = c.in_ok-places.ensures.value
    ∙ ap (λ (x : Holding). keys (submits_on c.args.link x.members)) held.held ∙ accepted-keys s c.args.link (traffic_held g) in
    let receipts = c.in_ok-receipts.ensures.value
    ∙ ap (λ (x : Grouping). keys (receipts_on c.args.link x)) (c.submits_on.ensures.members ∙ ap (λ (x : Holding). x.members) held.held)
    ∙ received-keys s c.args.link (traffic_held g) in
    c.in_ok-append.ensures.items ∙ (λ i. messages i ++ receipts i)
