-- The facts of the places so far are set anew.
use Rattle.std.proofs.Common.{◌≡◌, ◌≤◌, ◌+◌, ◌*◌, take}
use Rattle.smq_book.specs.index.Held.{held_settled}
use Rattle.smq_book.specs.index.Recomputed.{Restates}
use Rattle.smq_book.specs.index.Touches.{RisesWithFacts, index_cost}
use Rattle.smq_book.proofs.index.routes.refresh_at.Given as goal

abbrev pub invariant-loop-place : goal.invariant-loop-place
invariant-loop-place l = record {
  held : Restates l.routes.versions l.windows l.clock (take l.place-index l.places) l.initial.index l.index;
  settled : held_settled l.index ≡ held_settled l.initial.index;
  touches : index_cost l.index ≤ index_cost l.initial.index + 14 * l.place-index;
  rises : RisesWithFacts l.initial.index l.index;
}
