use Rattle.std.proofs.Common.{ℕ, Option, sym, ap, ◌∙◌}
use Rattle.std.specs.Prelude.{unwrap_or}
use Rattle.std.specs.FinMap.{FinMap}
use Rattle.std.specs.Ordering.{nat_cmp}
use Rattle.smq_present.specs.present.Settings.{opening_window, window_in}
use Rattle.smq_present.proofs.lemmas.present.NumberMaps.{get-seen}
use Rattle.smq_present.proofs.present.settings.Windows.of.Goals as goal

pub returns-in-Some : goal.returns-in-Some
returns-in-Some c =
    ap (λ (o : Option ℕ). unwrap_or o opening_window) (c.in-Some.ensures.value ∙ sym (get-seen c.self.inside.by_link.entries c.args.link.0))
    ∙ ap (λ (m : FinMap nat_cmp ℕ). window_in m c.args.link) c.self.view_is

pub returns-in-None : goal.returns-in-None
returns-in-None c =
    c.opening.ensures
    ∙ ap (λ (o : Option ℕ). unwrap_or o opening_window) (c.in-None.ensures.value ∙ sym (get-seen c.self.inside.by_link.entries c.args.link.0))
    ∙ ap (λ (m : FinMap nat_cmp ℕ). window_in m c.args.link) c.self.view_is
