use Rattle.std.proofs.Common.{subst, sym}
use Rattle.smq_route.specs.within.Kept.{AreWithin, versions_in}
use Rattle.smq_kit.specs.Replies.{first_of}
use Rattle.smq_route.specs.Edits.{end_refusals, ending}
use Rattle.smq_route.specs.Versions.{AreApart, version_of}
use Rattle.smq_route.proofs.Apart.{end-apart}
use Rattle.smq_route.proofs.Within.{change-within}
use Rattle.smq_route.proofs.routes.Routes.end.Goals as goal

pub invariant_of-self : goal.invariant_of-self
invariant_of-self c =
    let old = versions_in c.self.inside.versions in
    let new = versions_in c.end_in.new.versions in (
      end-apart old new c.args.prefix.now c.args.from c.args.until c.end_in.result c.self.invariant.0 c.end_in.ensures.answer,
      change-within c.self.inside.most_digits old new c.args.prefix.now c.args.from (ending c.args.until)
          (first_of (end_refusals (version_of old c.args.prefix.now c.args.from) c.args.from c.args.until)) c.end_in.result
          c.self.invariant.1 c.end_in.ensures.answer,
      subst AreApart (sym c.end_in.ensures.settled) c.self.invariant.2,
      subst (AreWithin c.self.inside.most_digits) (sym c.end_in.ensures.settled) c.self.invariant.3,
    )
