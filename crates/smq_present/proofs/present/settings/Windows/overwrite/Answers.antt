use Rattle.std.proofs.Common.{◌≡◌, ℕ, None, ap, subst, sym, ◌∙◌}
use Rattle.std.specs.FinMap.{FinMap, get, insert}
use Rattle.std.specs.Option.{IsSome}
use Rattle.std.specs.Ordering.{nat_cmp}
use Rattle.std.proofs.lemmas.Bool.{false≢true}
use Rattle.smq_present.proofs.lemmas.present.NumberMaps.{get-seen, insert-seen}
use Rattle.smq_present.proofs.present.settings.Windows.overwrite.Goals as goal

-- There is room for what is set already.
pub returns-in_default : goal.returns-in_default
returns-in_default c =
    let none : get c.args.self.now c.args.link.0 ≡ None =
    ap (λ (m : FinMap nat_cmp ℕ). get m c.args.link.0) (sym c.self.view_is) ∙ get-seen c.self.inside.by_link.entries c.args.link.0
    ∙ c.in_default.ensures.absent in
    absurd (false≢true (subst IsSome none c.requires))

pub returns : goal.returns
returns c =
    insert-seen c.self.inside.by_link.entries c.insert.new.self.entries c.args.link.0 c.args.window c.in-Ok.ensures.updates.0
    ∙ ap (λ (m : FinMap nat_cmp ℕ). insert m c.args.link.0 c.args.window) c.self.view_is
