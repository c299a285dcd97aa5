use Rattle.std.proofs.Common.{sym, ap, ◌∙◌}
use Rattle.smq_present.specs.present.Present.{PresentValue, session_of}
use Rattle.smq_present.proofs.lemmas.present.NumberMaps.{get-seen}
use Rattle.smq_present.proofs.present.present.Present.session.Goals as goal

pub returns : goal.returns
returns c = c.get.ensures.value ∙ sym (get-seen c.self.inside.sessions.entries c.args.number.0)
    ∙ ap (λ (p : PresentValue). session_of p c.args.number.0) c.self.view_is
