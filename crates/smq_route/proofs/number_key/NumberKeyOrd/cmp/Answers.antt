use Rattle.std.proofs.Common.{◌∙◌}
use Rattle.smq_route.specs.Numbers.{number_cmp}
use Rattle.smq_route.proofs.NumberCodes.{tied-cmp, untied-cmp}
use Rattle.smq_route.proofs.number_key.NumberKeyOrd.cmp.Goals as goal

pub returns-then-self-other : goal.returns-then-self-other
returns-then-self-other c =
    let self = c.self.inside in
    let other = c.other.inside in
    c.cmp.ensures ∙ tied-cmp self.code other.code self.place other.place c.self.invariant c.other.invariant c.if-self-other.true
    ∙ (λ i. number_cmp (c.self.view_is i) (c.other.view_is i))

pub returns : goal.returns
returns c =
    let self = c.self.inside in
    let other = c.other.inside in
    c.cmp-2.ensures ∙ untied-cmp self.code other.code self.place other.place c.self.invariant c.other.invariant c.if-self-other.false
    ∙ (λ i. number_cmp (c.self.view_is i) (c.other.view_is i))
