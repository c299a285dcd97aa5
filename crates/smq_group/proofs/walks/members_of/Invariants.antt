use Rattle.std.proofs.Common.{◌≡◌, ◌≤◌, ◌+◌, ◌++◌, true, length, map, filter}
use Rattle.std.specs.Prelude.{IfSome}
use Rattle.smq_shelf.specs.Places.{content_of}
use Rattle.smq_shelf.specs.Walks.{IsWalked, left_above}
use Rattle.smq_group.specs.within.Orders.{kept_member_cmp}
use Rattle.smq_group.specs.within.Walked.{is_like, of_part, placed}
use Rattle.smq_group.proofs.walks.members_of.Given as goal

abbrev pub invariant-loop-next : goal.invariant-loop-next
invariant-loop-next g l =
    record {
      walked : IsWalked (1 + length (filter (of_part l.by_link l.key) l.fn.kept.places)) l.fn.kept l.kept;
      touches : l.kept.touches + length (left_above kept_member_cmp (of_part l.by_link l.key) l.fn.kept.places l.next) ≤ l.fn.kept.touches + 1 + length (filter (of_part l.by_link l.key) l.fn.kept.places);
      gathered : l.members.items ++ map placed (content_of (left_above kept_member_cmp (of_part l.by_link l.key) l.fn.kept.places l.next)) ≡ map placed (content_of (filter (of_part l.by_link l.key) l.fn.kept.places));
      like : IfSome l.next (λ e. is_like l.by_link l.key e.0.key ≡ true);
    }

abbrev pub decreases-loop-next : goal.decreases-loop-next
decreases-loop-next g l = length (left_above kept_member_cmp (of_part l.by_link l.key) l.fn.kept.places l.next)
