use Rattle.std.proofs.Common.{sym, ap, ◌∙◌}
use Rattle.std.specs.FinMap.{entries}
use Rattle.smq_present.specs.present.Present.{PresentValue}
use Rattle.smq_present.proofs.lemmas.present.NumberMaps.{entries-seen}
use Rattle.smq_present.proofs.present.present.Present.sessions.Goals as goal

pub returns-clause-entries : goal.returns-clause-entries
returns-clause-entries c = c.iter.ensures.rest ∙ sym (entries-seen c.self.inside.sessions.entries c.iter.ensures.ordered)
    ∙ ap (λ (p : PresentValue). entries p.sessions) c.self.view_is
