use Rattle.std.proofs.Common.{◌≡◌, None, ap, subst, sym, ◌∙◌}
use Rattle.std.specs.FinMap.{insert}
use Rattle.std.specs.Option.{IsSome}
use Rattle.std.proofs.lemmas.Bool.{false≢true}
use Rattle.smq_present.specs.present.Settings.{SettingsValue, forms_if_set}
use Rattle.smq_present.proofs.lemmas.present.NumberMaps.{get-seen, insert-seen}
use Rattle.smq_present.proofs.present.settings.Settings.overwrite_forms.Goals as goal

-- There is room for what is set already.
pub returns-in_default : goal.returns-in_default
returns-in_default c =
    let none : forms_if_set c.args.self.now c.args.link.0 ≡ None =
    ap (λ (s : SettingsValue). forms_if_set s c.args.link.0) (sym c.self.view_is) ∙ get-seen c.self.inside.forms.entries c.args.link.0
    ∙ c.in_default.ensures.absent in
    absurd (false≢true (subst IsSome none c.requires))

pub returns : goal.returns
returns c =
    ap (λ m. record { forms = m; windows = c.self.inside.windows; versions = c.self.inside.routes.versions; clock = c.self.inside.clock })
    (insert-seen c.self.inside.forms.entries c.insert.new.self.entries c.args.link.0 c.args.forms c.in-Ok.ensures.updates.0)
    ∙ ap (λ (s : SettingsValue). record s { forms = insert s.forms c.args.link.0 c.args.forms }) c.self.view_is
