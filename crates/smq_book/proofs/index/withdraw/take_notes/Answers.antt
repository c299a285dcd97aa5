use Rattle.std.proofs.Common.{get_or, ◌∙◌, arith}
use Rattle.smq_kit.specs.declared.place.Dir.TheVariants.{FromClient}
use Rattle.smq_tally.specs.Lists.{listed}
use Rattle.smq_tally.specs.declared.list.List.TheVariants.{Waiting}
use Rattle.smq_tally.specs.declared.list.Listed.{Listed}
use Rattle.smq_book.specs.index.Held.{held_now, traffic_held}
use Rattle.smq_present.specs.join.Moves.{TakeNote}
use Rattle.smq_book.proofs.lemmas.index.Pushed.{after-one}
use Rattle.smq_book.proofs.lemmas.index.Taken.{next-note, traffic-at}
use Rattle.smq_book.proofs.lemmas.index.Rises.{both-rise}
use Rattle.smq_book.proofs.index.withdraw.take_notes.Goals as goal

-- the note that is read past the end of a list
abbrev none : Listed
none = listed Waiting (record { session = record { 0 = 0 }; dir = FromClient; offset = 0 })

pub loop-note-preserved : goal.loop-note-preserved
loop-note-preserved c = record {
  held = λ s is.
      let notes = c.args.notes.now in
      let i = c.loop-note.note-index in
      let g = held_now c.args.index.now in
      let h = held_now c.loop-note.index in
      let k = held_now c.take_note.new.self in
      let before = c.loop-note.invariant.held s is in
      let this = c.in_ok-take_note.ensures.held s (traffic_held h) (traffic-at notes i none c.requires c.loop-note-test.true) before.held.held in
      next-note s g notes i none h k c.loop-note-test.true before (after-one s h k (TakeNote (get_or notes i none)) before.held tt this);
  settled = c.take_note.ensures.settled ∙ c.loop-note.invariant.settled;
  touches = omega (arith, c.take_note.ensures.touches, c.loop-note.invariant.touches);
  rises = both-rise c.args.index.now c.loop-note.index c.take_note.new.self c.loop-note.invariant.rises
      c.in_ok-take_note.ensures.rises;
}
