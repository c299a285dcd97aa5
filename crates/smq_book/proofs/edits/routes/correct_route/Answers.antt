use Rattle.std.proofs.Common.{◌≡◌, refl, sym, ap, subst, ◌∙◌}
use Rattle.smq_kit.specs.Replies.{first_of}
use Rattle.smq_route.specs.Edits.{correct_refusals, corrected}
use Rattle.smq_route.specs.Versions.{version_of}
use Rattle.smq_book.specs.index.Kept.{IsIndexed}
use Rattle.smq_present.specs.pairing.Traffic.{traffic_of}
use Rattle.smq_present.specs.present.Present.{PresentValue}
use Rattle.smq_present.specs.present.Settings.{SettingsValue}
use Rattle.smq_present.specs.within.InOrder.{forms_in, sessions_in}
use Rattle.smq_book.proofs.lemmas.index.Routed.{made, others-changed}
use Rattle.smq_book.proofs.edits.routes.correct_route.Goals as goal

pub returns-clause-indexed : goal.returns-clause-indexed
returns-clause-indexed c =
    let s : SettingsValue = record { forms = forms_in c.settings.inside.forms; windows = c.settings.inside.windows; versions = c.settings.inside.routes.versions; clock = c.settings.inside.clock } in
    let p : PresentValue = record { sessions = sessions_in c.present.inside.sessions; settings = s } in
    let was : p ≡ c.args.present.now = ap (λ (z : SettingsValue). record p { settings = z }) c.settings.view_is ∙ c.present.view_is in
    let others = others-changed p.settings (traffic_of p.sessions) c.args.prefix.now c.correct.new.self.versions c.args.from
    (corrected c.args.route c.args.network)
    (made (first_of (correct_refusals (version_of p.settings.versions c.args.prefix.now c.args.from))) tt _ _
    c.in_ok-correct.ensures.reply) in
    c.follow.ensures.indexed p refl refl (sym (c.correct.ensures.settled ∙ c.settings.invariant))
    (subst (λ (q : PresentValue). IsIndexed q c.args.index.now) (sym was) c.requires.indexed)
    others
