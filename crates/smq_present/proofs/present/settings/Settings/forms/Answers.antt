use Rattle.std.proofs.Common.{sym, ap, ◌∙◌}
use Rattle.std.specs.FinMap.{entries}
use Rattle.smq_present.specs.present.Settings.{SettingsValue}
use Rattle.smq_present.proofs.lemmas.present.NumberMaps.{entries-seen}
use Rattle.smq_present.proofs.present.settings.Settings.forms.Goals as goal

pub returns-clause-entries : goal.returns-clause-entries
returns-clause-entries c = c.iter.ensures.rest ∙ sym (entries-seen c.self.inside.forms.entries c.iter.ensures.ordered)
    ∙ ap (λ (s : SettingsValue). entries s.forms) c.self.view_is
