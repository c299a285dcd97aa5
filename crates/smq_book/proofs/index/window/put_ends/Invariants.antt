-- The ends of the keys so far are put in.
use Rattle.std.proofs.Common.{◌≡◌, ◌≤◌, ◌+◌, ◌*◌, take}
use Rattle.smq_book.specs.index.Ends.{ends_put}
use Rattle.smq_book.specs.index.Held.{ends_in}
use Rattle.smq_book.specs.index.Touches.{kept_cost}
use Rattle.smq_book.proofs.index.window.put_ends.Given as goal

abbrev pub invariant-loop-key : goal.invariant-loop-key
invariant-loop-key l = record {
  value : ends_in l.ends.content ≡ ends_put l.window (ends_in l.initial.ends.content) (take l.key-index l.keys);
  settled : l.ends.settled ≡ l.initial.ends.settled;
  touches : kept_cost l.ends ≤ kept_cost l.initial.ends + 4 * l.key-index;
  counted : l.initial.ends.touches ≤ l.ends.touches;
}
