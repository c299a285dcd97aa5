use Rattle.std.proofs.Common.{ℕ, ap, ◌∙◌}
use Rattle.std.specs.FinMap.{FinMap, remove}
use Rattle.std.specs.Ordering.{nat_cmp}
use Rattle.smq_present.proofs.lemmas.present.NumberMaps.{remove-seen}
use Rattle.smq_present.proofs.present.settings.Windows.forget.Goals as goal

pub returns : goal.returns
returns c =
    remove-seen c.self.inside.by_link.entries c.remove.new.self.entries c.args.link.0 c.remove.ensures.updates.0
    ∙ ap (λ (m : FinMap nat_cmp ℕ). remove m c.args.link.0) c.self.view_is
