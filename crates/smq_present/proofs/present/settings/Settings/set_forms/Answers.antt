use Rattle.std.proofs.Common.{ap, sym, ◌∙◌}
use Rattle.std.specs.FinMap.{insert}
use Rattle.smq_present.specs.present.Settings.{SettingsValue, forms_if_set}
use Rattle.smq_present.proofs.lemmas.present.NumberMaps.{get-seen, insert-seen}
use Rattle.smq_present.proofs.present.settings.Settings.set_forms.Goals as goal

pub returns-clause-reply : goal.returns-clause-reply
returns-clause-reply c =
    ap (λ m. record { forms = m; windows = c.self.inside.windows; versions = c.self.inside.routes.versions; clock = c.self.inside.clock })
    (insert-seen c.self.inside.forms.entries c.insert.new.self.entries c.args.link.0 c.args.forms c.in-Ok.ensures.updates.0)
    ∙ ap (λ (s : SettingsValue). record s { forms = insert s.forms c.args.link.0 c.args.forms }) c.self.view_is

pub returns-clause-before : goal.returns-clause-before
returns-clause-before c =
    c.in-Ok.ensures.old ∙ sym (get-seen c.self.inside.forms.entries c.args.link.0)
    ∙ ap (λ (s : SettingsValue). forms_if_set s c.args.link.0) c.self.view_is
