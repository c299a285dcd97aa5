use Rattle.std.proofs.Common.{◌≡◌, ◌≢◌, ℕ, Ok, refl, sym, ap, subst, ◌∙◌, arith}
use Rattle.std.specs.FinMap.{FinMap, get}
use Rattle.std.specs.Option.{IsSome}
use Rattle.std.specs.Ordering.{nat_cmp}
use Rattle.smq_kit.specs.declared.names.LinkId.{LinkId}
use Rattle.smq_kit.specs.Maps.{set_at}
use Rattle.smq_book.specs.index.Held.{IsHeld, held_now, traffic_held}
use Rattle.smq_present.specs.present.Present.{PresentValue}
use Rattle.smq_present.specs.present.Settings.{SettingsValue, window_in}
use Rattle.smq_present.specs.within.InOrder.{forms_in, sessions_in}
use Rattle.smq_book.proofs.lemmas.edits.WindowEdits.{inserted-others, window-outside}
use Rattle.smq_book.proofs.lemmas.index.Bounds.{window-bound}
use Rattle.smq_book.proofs.lemmas.index.KeptPairs.{settled-again, undone}
use Rattle.smq_present.proofs.lemmas.present.NumberMaps.{set-back, set-there}
use Rattle.smq_book.proofs.edits.window.set_window.Goals as goal

pub restore-requires : goal.restore-requires
restore-requires c =
    subst IsSome (sym (ap (λ (m : FinMap nat_cmp ℕ). get m c.args.link.0) c.in_ok-before.ensures.reply
    ∙ set-there c.settings.inside.windows c.args.link.0 c.args.window)) refl

-- All that is set is as it was.
pub returns-in_default-clause-reply : goal.returns-in_default-clause-reply
returns-in_default-clause-reply c =
    let w = c.settings.inside.windows in
    let s : FinMap nat_cmp ℕ → SettingsValue = λ m. record { forms = forms_in c.settings.inside.forms; windows = m; versions = c.settings.inside.routes.versions; clock = c.settings.inside.clock } in
    let back : c.restore.new.self ≡ w = c.restore.ensures
    ∙ (λ i. set_at (c.in_ok-before.ensures.reply i) c.args.link.0 (c.in_ok-before.ensures.before i)) ∙ set-back w c.args.link.0 c.args.window in
    let p : SettingsValue → PresentValue = λ z. record { sessions = sessions_in c.present.inside.sessions; settings = z } in (
      refl,
      ap p (ap s back ∙ c.settings.view_is) ∙ c.present.view_is,
    )

pub returns-in_default-clause-indexed : goal.returns-in_default-clause-indexed
returns-in_default-clause-indexed c =
    undone (returns-in_default-clause-reply c).1 (c.undo.ensures.held ∙ c.set_window.ensures.settled)
    (c.undo.ensures.settled ∙ c.set_window.ensures.settled) c.undo.ensures.pending c.requires.indexed

pub returns-clause-indexed : goal.returns-clause-indexed
returns-clause-indexed c =
    let s : SettingsValue = record { forms = forms_in c.settings.inside.forms; windows = c.settings.inside.windows; versions = c.settings.inside.routes.versions; clock = c.settings.inside.clock } in
    let s_is : s ≡ c.args.present.now.settings = c.settings.view_is ∙ ap (λ (p : PresentValue). p.settings) c.present.view_is in
    let was : IsHeld s (held_now c.args.index.now) = subst (λ (z : SettingsValue). IsHeld z (held_now c.args.index.now)) (sym s_is) c.requires.indexed.held in
    let same : (l : LinkId) → l ≢ c.args.link → window_in c.set.new.self l ≡ window_in s.windows l =
    (λ l apart. ap (λ (m : FinMap nat_cmp ℕ). window_in m l) c.in_ok-before.ensures.reply ∙ inserted-others s c.args.link c.args.window l apart) in
    let outside = window-outside s c.set.new.self c.args.link (traffic_held (held_now c.args.index.now)) same in
    let after = c.in-Ok.ensures.held s refl refl was (sym c.of-waited.ensures) (λ l apart. sym (same l apart)) outside in
    settled-again c.set_window.new.index (sym (ap (λ (p : PresentValue). p.sessions) c.present.view_is)) after.held after.traffic
    c.settle.ensures.held c.settle.ensures.settled c.settle.ensures.pending c.requires.indexed

pub returns-clause-touches : goal.returns-clause-touches
returns-clause-touches c =
    window-bound c.args.present.now c.args.index.now c.settle.new.self c.requires.indexed
    c.args.link c.args.window (Ok tt) (λ pending. let cost = c.in-Ok.ensures.touches pending in omega (arith, cost, c.settle.ensures.touches))
