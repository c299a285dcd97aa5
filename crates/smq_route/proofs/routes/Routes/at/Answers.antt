use Rattle.std.proofs.Common.{◌≡◌, ℕ, ap, sym, subst, arith}
use Rattle.smq_route.specs.Routes.{RoutesValue}
use Rattle.smq_route.specs.Versions.{AreApart}
use Rattle.smq_route.specs.within.Kept.{versions_in}
use Rattle.smq_route.specs.within.Searches.{NoneLonger}
use Rattle.smq_route.proofs.Found.{route-none}
use Rattle.smq_route.proofs.routes.Routes.at.Goals as goal

pub returns : goal.returns
returns c =
    let same : versions_in c.self.inside.versions ≡ c.args.self.now.versions = ap (λ (r : RoutesValue). r.versions) c.self.view_is in
    let over = c.loop-len-test.false in
    sym (route-none c.args.self.now.versions c.args.number.now c.args.at (subst AreApart same c.self.invariant.0)
    (subst (λ (n : ℕ). NoneLonger c.args.self.now.versions c.args.number.now c.args.at n) (omega (arith, over)) c.loop-len.invariant.1))
