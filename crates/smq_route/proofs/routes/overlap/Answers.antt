use Rattle.std.proofs.Common.{rules}
use Rattle.smq_route.specs.within.Kept.{versions_in}
use Rattle.smq_route.proofs.Apart.{overlap-holding, overlap-first}
use Rattle.smq_route.proofs.routes.overlap.Goals as goal

pub returns-in-Some : goal.returns-in-Some
returns-in-Some c = let h = overlap-holding (versions_in c.args.versions.now) c.args.prefix.now c.args.from c.in-Some.earlier
    c.in-Some.field-0-1.now c.requires c.in-Some.ensures.0 c.in-Some.ensures.1 c.in-Some.ensures.2 in
    search (rules, h)

pub returns-in-None : goal.returns-in-None
returns-in-None c = overlap-first (versions_in c.args.versions.now) c.args.prefix.now c.args.from c.first_from.result c.requires
    c.in-None.ensures c.first_from.ensures
