use Rattle.std.proofs.Common.{Option, sym, ap, ◌∙◌}
use Rattle.std.specs.Prelude.{unwrap_or}
use Rattle.smq_present.specs.declared.present.forms.Forms.{Forms}
use Rattle.smq_present.specs.present.Settings.{SettingsValue, opening_forms, forms_of}
use Rattle.smq_present.proofs.lemmas.present.NumberMaps.{get-seen}
use Rattle.smq_present.proofs.present.settings.Settings.forms_of.Goals as goal

pub returns-in-Some : goal.returns-in-Some
returns-in-Some c =
    ap (λ (o : Option Forms). unwrap_or o opening_forms) (c.in-Some.ensures.value ∙ sym (get-seen c.self.inside.forms.entries c.args.link.0))
    ∙ ap (λ (s : SettingsValue). forms_of s c.args.link) c.self.view_is

pub returns-in-None : goal.returns-in-None
returns-in-None c =
    c.opening.ensures
    ∙ ap (λ (o : Option Forms). unwrap_or o opening_forms) (c.in-None.ensures.value ∙ sym (get-seen c.self.inside.forms.entries c.args.link.0))
    ∙ ap (λ (s : SettingsValue). forms_of s c.args.link) c.self.view_is
