use Rattle.std.proofs.Common.{ap, refl, ◌∙◌}
use Rattle.smq_route.specs.Numbers.{NumbersValue}
use Rattle.smq_present.specs.present.Settings.{with_versions}
use Rattle.smq_present.specs.join.Facts.{facts_of}
use Rattle.smq_book.specs.index.Held.{held_now, traffic_held}
use Rattle.smq_book.proofs.lemmas.index.Restated.{restates}
use Rattle.smq_book.proofs.lemmas.index.Recomputed.{routes-held, told-numbers}
use Rattle.smq_book.proofs.index.routes.set_routes.Goals as goal

pub returns-clause-held : goal.returns-clause-held
returns-clause-held c = λ s windows clock is same.
    let g = held_now c.args.index.now in
    let versions = c.args.routes.now.versions in
    let unmoved = told-numbers g c.under.new.self.numbers (ap (λ (n : NumbersValue). n.numbers) c.under.ensures.unchanged) in
    routes-held s g (held_now c.refresh_at.new.index) is versions c.args.prefix.now c.as_slice.result.now same
    (c.as_slice.ensures.value ∙ c.in_ok-places.ensures.value)
    (c.in_ok-refresh_at.ensures.held (with_versions s versions) (traffic_held g) (facts_of s (traffic_held g)) is.traffic refl windows clock
    (restates s (traffic_held g) versions s.windows s.clock)
    (unmoved ∙ is.held))
