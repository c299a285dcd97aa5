use Rattle.std.proofs.Common.{ap, ◌∙◌}
use Rattle.std.specs.FinMap.{remove}
use Rattle.smq_present.specs.present.Settings.{SettingsValue}
use Rattle.smq_present.proofs.lemmas.present.NumberMaps.{remove-seen}
use Rattle.smq_present.proofs.present.settings.Settings.forget_forms.Goals as goal

pub returns : goal.returns
returns c =
    ap (λ m. record { forms = m; windows = c.self.inside.windows; versions = c.self.inside.routes.versions; clock = c.self.inside.clock })
    (remove-seen c.self.inside.forms.entries c.remove.new.self.entries c.args.link.0 c.remove.ensures.updates.0)
    ∙ ap (λ (s : SettingsValue). record s { forms = remove s.forms c.args.link.0 }) c.self.view_is
