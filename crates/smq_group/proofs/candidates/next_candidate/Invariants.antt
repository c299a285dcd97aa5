use Rattle.std.proofs.Common.{◌≡◌, ◌≤◌, ◌+◌, true, length}
use Rattle.std.specs.Prelude.{IfSome}
use Rattle.smq_kit.specs.LinkKeys.{same_key}
use Rattle.smq_shelf.specs.Walks.{Stays, left_above}
use Rattle.smq_group.specs.within.Orders.{kept_candidate_cmp}
use Rattle.smq_group.specs.within.Walked.{candidate_key, first_candidate_after, first_there, of_candidate, vacant_left, vacant_of}
use Rattle.smq_group.proofs.candidates.next_candidate.Given as goal

abbrev pub invariant-loop-next : goal.invariant-loop-next
invariant-loop-next l =
    record {
      read : Stays l.fn.candidates l.candidates;
      left : first_candidate_after l.key l.fn.from l.fn.candidates.content ≡ first_there (left_above kept_candidate_cmp (of_candidate l.key) l.fn.candidates.places l.next);
      touches : l.candidates.touches + vacant_left (left_above kept_candidate_cmp (of_candidate l.key) l.fn.candidates.places l.next) ≤ l.fn.candidates.touches + 1 + vacant_of candidate_key l.key l.fn.candidates.places;
      own : IfSome l.next (λ e. same_key l.key e.0.key ≡ true);
    }

abbrev pub decreases-loop-next : goal.decreases-loop-next
decreases-loop-next l = length (left_above kept_candidate_cmp (of_candidate l.key) l.fn.candidates.places l.next)
