use Rattle.std.proofs.Common.{◌∙◌}
use Rattle.smq_route.specs.Versions.{begins}
use Rattle.smq_route.proofs.NumberCodes.{code-begins}
use Rattle.smq_route.proofs.number_key.Prefix.begins.Goals as goal

pub returns : goal.returns
returns c =
    code-begins c.self.inside.first c.self.inside.past c.key.inside.code c.self.invariant.0 c.key.invariant c.self.invariant.1
    ∙ (λ i. begins (c.key.view_is i).number (c.self.view_is i))
