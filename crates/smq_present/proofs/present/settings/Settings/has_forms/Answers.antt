use Rattle.std.proofs.Common.{◌≡◌, Option, Some, None, sym, ap, ◌∙◌, rules}
use Rattle.std.specs.Bool.{Decides}
use Rattle.std.proofs.lemmas.Bool.{false≢true}
use Rattle.std.proofs.lemmas.Bool.Decides.{Decides-and}
use Rattle.std.proofs.lemmas.Option.{same_Some, none-some}
use Rattle.smq_kit.specs.declared.message_id.Form.{Form}
use Rattle.smq_kit.specs.contracts.message_id.FormPartialEq.TheImpl as form_eq
use Rattle.smq_present.specs.declared.present.forms.Forms.{Forms}
use Rattle.smq_present.specs.present.Settings.{SettingsValue, forms_if_set}
use Rattle.smq_present.proofs.lemmas.present.NumberMaps.{get-seen}
use Rattle.smq_present.proofs.present.settings.Settings.has_forms.Goals as goal

one : (a b : Form) → Decides (form_eq.ghosts.eq a b) (a ≡ b)
one a b = search rules

pub returns-in-Some : goal.returns-in-Some
returns-in-Some c =
    let set = c.in-Some.set.now in
    let decides = Decides-and _ _ (one set.response c.args.forms.response) (one set.receipt c.args.forms.receipt) in
    let there : Some set ≡ forms_if_set c.args.self.now c.args.link.0 = c.in-Some.ensures.value ∙ sym (get-seen c.self.inside.forms.entries c.args.link.0)
    ∙ ap (λ (s : SettingsValue). forms_if_set s c.args.link.0) c.self.view_is in (
      λ same. let parts = decides.0 (sym c.eq.ensures ∙ same) in sym there ∙ (λ i. Some (record { response = parts.0 i; receipt = parts.1 i })),
      λ is. let same = same_Some _ _ (there ∙ is) in
          c.eq.ensures ∙ decides.1 (ap (λ (f : Forms). f.response) same, ap (λ (f : Forms). f.receipt) same),
    )

pub returns-in-None : goal.returns-in-None
returns-in-None c =
    let there : ◌≡◌ {A = Option Forms} None (forms_if_set c.args.self.now c.args.link.0) = c.in-None.ensures.value ∙ sym (get-seen c.self.inside.forms.entries c.args.link.0)
    ∙ ap (λ (s : SettingsValue). forms_if_set s c.args.link.0) c.self.view_is in
    (λ no. absurd (false≢true no), λ is. absurd (none-some _ (there ∙ is)))
