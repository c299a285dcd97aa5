-- What is held is what the places so far leave of it, and what stood there is taken.
use Rattle.std.proofs.Common.{◌≡◌, ◌≤◌, ◌+◌, ◌++◌, drop, take}
use Rattle.std.specs.List.{sum_by}
use Rattle.std.specs.Prelude.{map}
use Rattle.smq_book.specs.index.Held.{IsHeld, held_now, held_settled, traffic_held}
use Rattle.smq_book.specs.index.LinkOut.{found_in_turn, take_at}
use Rattle.smq_book.specs.index.Touches.{MembersGo, RisesWithFacts, index_cost, taken_load}
use Rattle.smq_present.specs.join.Moves.{moved_by}
use Rattle.smq_book.proofs.index.forms.take_all.Given as goal

abbrev pub invariant-loop-place : goal.invariant-loop-place
invariant-loop-place l = record {
  held : IsHeld l.settings (held_now l.index);
  traffic : moved_by (traffic_held (held_now l.index)) (map take_at (drop l.place-index l.places))
      ≡ moved_by (traffic_held (held_now l.initial.index)) (map take_at l.places);
  taken : l.taken.items ++ found_in_turn (traffic_held (held_now l.index)) (drop l.place-index l.places)
      ≡ found_in_turn (traffic_held (held_now l.initial.index)) l.places;
  settled : held_settled l.index ≡ held_settled l.initial.index;
  went : MembersGo l.initial.index.groups l.index.groups;
  touches : index_cost l.index ≤ index_cost l.initial.index + sum_by (taken_load l.initial.index.groups) (take l.place-index l.places);
  rises : RisesWithFacts l.initial.index l.index;
}
