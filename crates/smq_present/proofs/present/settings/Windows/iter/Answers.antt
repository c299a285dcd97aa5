use Rattle.std.proofs.Common.{ℕ, sym, ap, ◌∙◌}
use Rattle.std.specs.FinMap.{FinMap, entries}
use Rattle.std.specs.Ordering.{nat_cmp}
use Rattle.smq_present.proofs.lemmas.present.NumberMaps.{entries-seen}
use Rattle.smq_present.proofs.present.settings.Windows.iter.Goals as goal

pub returns-clause-entries : goal.returns-clause-entries
returns-clause-entries c = c.iter.ensures.rest ∙ sym (entries-seen c.self.inside.by_link.entries c.iter.ensures.ordered)
    ∙ ap (λ (m : FinMap nat_cmp ℕ). entries m) c.self.view_is
