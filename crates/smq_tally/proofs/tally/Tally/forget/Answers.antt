use Rattle.std.proofs.Common.{sym, ap, ◌∙◌}
use Rattle.smq_tally.specs.Lists.{listed}
use Rattle.smq_tally.specs.Tables.{tables_of}
use Rattle.smq_tally.specs.within.Kept.{facts_in}
use Rattle.smq_tally.specs.within.Noted.{NotedValue}
use Rattle.smq_tally.proofs.Held.{note-taken, stands, still}
use Rattle.smq_tally.proofs.tally.Tally.forget.Goals as goal

pub invariant_of-self-2 : goal.invariant_of-self-2
invariant_of-self-2 c =
    let note = listed c.args.list c.args.place in
    let ok = c.in_ok-forget.ensures.ok in
    still c.self.invariant
    (note-taken c.self.invariant note c.is_listed-stays.result (stands c.self.inside.facts.content) (ap (λ (t : NotedValue). t.notes) ok) c.is_listed-stays.ensures.value
    (ap (λ (t : NotedValue). t.shown) ok)
    ∙ (λ i. tables_of (facts_in (sym c.is_listed-stays.ensures.content i)) c.forget.new.self.notes))
    (ap facts_in c.is_listed-stays.ensures.settled) (ap (λ (t : NotedValue). t.settled_notes) ok) (ap (λ (t : NotedValue). t.settled) ok)
