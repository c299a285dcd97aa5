use Rattle.std.proofs.Common.{ℕ, ap, sym, ◌∙◌}
use Rattle.std.specs.FinMap.{FinMap, get, insert}
use Rattle.std.specs.Ordering.{nat_cmp}
use Rattle.smq_present.proofs.lemmas.present.NumberMaps.{get-seen, insert-seen}
use Rattle.smq_present.proofs.present.settings.Windows.set.Goals as goal

pub returns-clause-reply : goal.returns-clause-reply
returns-clause-reply c =
    insert-seen c.self.inside.by_link.entries c.insert.new.self.entries c.args.link.0 c.args.window c.in-Ok.ensures.updates.0
    ∙ ap (λ (m : FinMap nat_cmp ℕ). insert m c.args.link.0 c.args.window) c.self.view_is

pub returns-clause-before : goal.returns-clause-before
returns-clause-before c =
    c.in-Ok.ensures.old ∙ sym (get-seen c.self.inside.by_link.entries c.args.link.0)
    ∙ ap (λ (m : FinMap nat_cmp ℕ). get m c.args.link.0) c.self.view_is
