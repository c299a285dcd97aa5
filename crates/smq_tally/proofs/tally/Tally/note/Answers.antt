use Rattle.std.proofs.Common.{refl, ap}
use Rattle.smq_tally.specs.Lists.{listed}
use Rattle.smq_tally.specs.within.Noted.{NotedValue}
use Rattle.smq_tally.proofs.Held.{still, note-added}
use Rattle.smq_tally.proofs.tally.Tally.note.Goals as goal

pub invariant_of-self-2 : goal.invariant_of-self-2
invariant_of-self-2 c =
    still c.self.invariant
    (note-added c.self.invariant (listed c.args.list c.args.place) (ap (λ (t : NotedValue). t.notes) c.in_ok-note.ensures.ok)
    (ap (λ (t : NotedValue). t.shown) c.in_ok-note.ensures.ok))
    refl (ap (λ (t : NotedValue). t.settled_notes) c.in_ok-note.ensures.ok)
    (ap (λ (t : NotedValue). t.settled) c.in_ok-note.ensures.ok)
