-- The keys so far, and those that are left of the walk, are all that are met.
use Rattle.std.proofs.Common.{◌≡◌, ◌≤◌, ◌+◌, ◌++◌, true, length, filter}
use Rattle.std.specs.Prelude.{IfSome}
use Rattle.std.specs.Map.{keys_of}
use Rattle.smq_shelf.specs.Places.{content_of}
use Rattle.smq_shelf.specs.Walks.{IsWalked, left_above}
use Rattle.smq_shelf.proofs.walk.keys_in.Given as goal

abbrev pub invariant-loop-next : goal.invariant-loop-next
invariant-loop-next g l = record {
  walked : IsWalked (1 + length (filter (λ e. g.S.Stretch.has l.stretch e.0) l.fn.kept.places)) l.fn.kept l.kept;
  touches : l.kept.touches + length (left_above g.K.Ord.cmp (λ e. g.S.Stretch.has l.stretch e.0) l.fn.kept.places l.next)
      ≤ l.fn.kept.touches + 1 + length (filter (λ e. g.S.Stretch.has l.stretch e.0) l.fn.kept.places);
  gathered : l.keys.items ++ keys_of (content_of (left_above g.K.Ord.cmp (λ e. g.S.Stretch.has l.stretch e.0) l.fn.kept.places l.next))
      ≡ keys_of (content_of (filter (λ e. g.S.Stretch.has l.stretch e.0) l.fn.kept.places));
  of_stretch : IfSome l.next (λ e. g.S.Stretch.has l.stretch e.0 ≡ true);
}

abbrev pub decreases-loop-next : goal.decreases-loop-next
decreases-loop-next g l = length (left_above g.K.Ord.cmp (λ e. g.S.Stretch.has l.stretch e.0) l.fn.kept.places l.next)
