use Rattle.std.proofs.Common.{rules}
use Rattle.smq_tally.specs.Lists.{listed}
use Rattle.smq_book.specs.index.Held.{held_now, traffic_held}
use Rattle.smq_present.specs.join.Moves.{TakeNote}
use Rattle.smq_book.proofs.lemmas.index.Pushed.{after-one}
use Rattle.smq_book.proofs.index.notes.forget_place.Goals as goal

pub returns-clause-ok : goal.returns-clause-ok
returns-clause-ok c = record {
  held = λ s is.
      let g = held_now c.args.index.now in
      after-one s g (held_now c.take_note.new.self) (TakeNote (listed c.args.list c.args.place)) is tt
      (c.in_ok-take_note.ensures.held s (traffic_held g) c.requires is.held);
  rises = search rules;
}
