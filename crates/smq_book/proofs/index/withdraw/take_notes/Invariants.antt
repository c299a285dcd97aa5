-- What is held is what the notes so far leave of it.
use Rattle.std.proofs.Common.{◌≡◌, ◌≤◌, ◌+◌, take}
use Rattle.smq_present.specs.present.Settings.{SettingsValue}
use Rattle.smq_book.specs.index.Held.{IsHeld, held_now, held_settled}
use Rattle.smq_book.specs.index.Pushed.{IsHeldAfter}
use Rattle.smq_book.specs.index.Touches.{RisesWithFacts, index_cost}
use Rattle.smq_book.specs.index.Taken.{note_takes}
use Rattle.smq_book.proofs.index.withdraw.take_notes.Given as goal

abbrev pub invariant-loop-note : goal.invariant-loop-note
invariant-loop-note l = record {
  held : (s : SettingsValue) → IsHeld s (held_now l.initial.index)
      → IsHeldAfter s (held_now l.initial.index) (note_takes (take l.note-index l.notes)) (held_now l.index);
  settled : held_settled l.index ≡ held_settled l.initial.index;
  touches : index_cost l.index ≤ index_cost l.initial.index + l.note-index;
  rises : RisesWithFacts l.initial.index l.index;
}
