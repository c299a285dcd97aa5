use Rattle.smq_route.specs.within.Kept.{AreWithin, settled_in, versions_in}
use Rattle.std.proofs.Common.{◌≤◌, ℕ, List, length, subst, sym}
use Rattle.smq_kit.specs.Replies.{first_of}
use Rattle.smq_route.specs.Edits.{add_refusals}
use Rattle.smq_route.specs.Versions.{AreApart}
use Rattle.smq_route.proofs.Apart.{add-apart}
use Rattle.smq_route.proofs.Within.{add-within, within-more}
use Rattle.smq_route.proofs.routes.Routes.add.Goals as goal

pub invariant_of-self : goal.invariant_of-self
invariant_of-self c =
    let old = versions_in c.self.inside.versions in
    let new = versions_in c.add_in.new.versions in
    let most = c.greater-self-inside.result in (
      add-apart old new c.args.prefix c.args.from c.args.route c.args.network c.add_in.result c.self.invariant.0
          c.add_in.ensures.digits c.add_in.ensures.answer,
      add-within most old new c.args.prefix c.args.from c.args.route c.args.network
          (first_of (add_refusals old c.args.prefix c.args.from)) c.add_in.result
          (within-more c.self.inside.most_digits most old c.greater-self-inside.ensures.first c.self.invariant.1)
          (subst (λ (d : List ℕ). length d ≤ most) c.as_slice.ensures.value c.greater-self-inside.ensures.second) c.add_in.ensures.answer,
      subst AreApart (sym c.add_in.ensures.settled) c.self.invariant.2,
      subst (AreWithin most) (sym c.add_in.ensures.settled)
          (within-more c.self.inside.most_digits most (settled_in c.self.inside.versions) c.greater-self-inside.ensures.first c.self.invariant.3),
    )
