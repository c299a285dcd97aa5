use Rattle.std.proofs.Common.{◌≡◌, ◌∙◌, List, ℕ, ap}
use Rattle.smq_streams.specs.declared.acknowledged.Note.{Note}
use Rattle.smq_streams.specs.Acknowledged.{since}
use Rattle.smq_streams.proofs.Notes.{since-more}
use Rattle.smq_streams.proofs.acknowledged.Acknowledged.note.Goals as goal

pub returns-clause-ok : goal.returns-clause-ok
returns-clause-ok c n =
    rw (← c.self.view_is)
    (ap (λ (x : List Note). since x n) c.in_ok-push_back.ensures.items
    ∙ since-more c.self.inside.notes.items (record { place = c.args.place; moment = c.args.moment }) n)
