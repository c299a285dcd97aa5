use Rattle.smq_route.specs.within.Kept.{settled_in, versions_in}
use Rattle.smq_route.proofs.Apart.{none-apart}
use Rattle.smq_route.proofs.Lookups.{get-none}
use Rattle.smq_route.proofs.Within.{none-within}
use Rattle.smq_route.proofs.routes.Routes.new.Goals as goal

pub invariant_of-result : goal.invariant_of-result
invariant_of-result c =
    let versions = versions_in c.new.result in
    let settled = settled_in c.new.result in (
      none-apart versions (λ k. get-none c.new.result.content k c.new.ensures.content),
      none-within 0 versions (λ k. get-none c.new.result.content k c.new.ensures.content),
      none-apart settled (λ k. get-none c.new.result.settled k c.new.ensures.settled),
      none-within 0 settled (λ k. get-none c.new.result.settled k c.new.ensures.settled),
    )
