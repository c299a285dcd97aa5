use Rattle.std.proofs.Common.{subst, sym}
use Rattle.smq_route.specs.within.Kept.{AreWithin, versions_in}
use Rattle.smq_kit.specs.Replies.{first_of}
use Rattle.smq_route.specs.Edits.{correct_refusals, corrected}
use Rattle.smq_route.specs.Versions.{AreApart, version_of}
use Rattle.smq_route.proofs.Apart.{correct-apart}
use Rattle.smq_route.proofs.Within.{change-within}
use Rattle.smq_route.proofs.routes.Routes.correct.Goals as goal

pub invariant_of-self : goal.invariant_of-self
invariant_of-self c =
    let old = versions_in c.self.inside.versions in
    let new = versions_in c.correct_in.new.versions in (
      correct-apart old new c.args.prefix.now c.args.from c.args.route c.args.network c.correct_in.result c.self.invariant.0 c.correct_in.ensures.answer,
      change-within c.self.inside.most_digits old new c.args.prefix.now c.args.from (corrected c.args.route c.args.network)
          (first_of (correct_refusals (version_of old c.args.prefix.now c.args.from))) c.correct_in.result c.self.invariant.1 c.correct_in.ensures.answer,
      subst AreApart (sym c.correct_in.ensures.settled) c.self.invariant.2,
      subst (AreWithin c.self.inside.most_digits) (sym c.correct_in.ensures.settled) c.self.invariant.3,
    )
