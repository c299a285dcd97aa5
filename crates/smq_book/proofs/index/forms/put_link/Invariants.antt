-- What is held, with those that are left, is what all leave.
use Rattle.std.proofs.Common.{◌≡◌, ◌≤◌, ◌+◌}
use Rattle.std.specs.List.{AllByRecursion, sum_by}
use Rattle.std.specs.Prelude.{map}
use Rattle.std.specs.Vec.Iter.{into_iter_items}
use Rattle.smq_kit.specs.declared.link_key.LinkKey.{LinkKey}
use Rattle.smq_group.specs.Matching.{Grouping}
use Rattle.smq_book.specs.edits.Reach.{members}
use Rattle.smq_book.specs.index.Coming.{AreNew}
use Rattle.smq_book.specs.index.Held.{IsHeld, KeepsTraffic, held_now, held_settled, traffic_held}
use Rattle.smq_book.specs.index.LinkOut.{put_of}
use Rattle.smq_book.specs.index.Touches.{MembersCome, RisesWithFacts, index_cost, put_load}
use Rattle.smq_present.specs.join.Moves.{moved_by}
use Rattle.smq_book.proofs.index.forms.put_link.Given as goal

abbrev pub invariant-loop-place : goal.invariant-loop-place
invariant-loop-place l = record {
  held : IsHeld l.settings (held_now l.index);
  traffic : moved_by (traffic_held (held_now l.index)) (map put_of (into_iter_items l.place-iterator))
      ≡ moved_by (traffic_held (held_now l.initial.index)) (map put_of l.fn.taken.items);
  stand : AllByRecursion (λ e. KeepsTraffic (put_of e)) (into_iter_items l.place-iterator);
  new : AreNew (traffic_held (held_now l.index)) (map put_of (into_iter_items l.place-iterator));
  settled : held_settled l.index ≡ held_settled l.initial.index;
  came : MembersCome l.initial.index.groups l.index.groups;
  touches : (n : Grouping) → ((k : LinkKey) → members l.index.groups.members k ≤ members n k)
      → index_cost l.index + sum_by (put_load l.initial.index.groups n l.settings) (into_iter_items l.place-iterator)
      ≤ index_cost l.initial.index + sum_by (put_load l.initial.index.groups n l.settings) l.fn.taken.items;
  rises : RisesWithFacts l.initial.index l.index;
}
