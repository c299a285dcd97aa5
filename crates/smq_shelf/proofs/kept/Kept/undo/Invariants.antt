use Rattle.std.proofs.Common.{vec_len, ◌+◌, ◌*◌, ◌≤◌}
use Rattle.smq_shelf.proofs.Changes.{IsUndoing}
use Rattle.smq_shelf.proofs.kept.Kept.undo.Given as goal

abbrev pub invariant-loop-change : goal.invariant-loop-change
invariant-loop-change g l =
    record {
      steps : IsUndoing g.met.K.Ord.total l.initial.self-inside.log.items l.initial.self-inside.shelf.entries l.self-inside.log.items l.self-inside.shelf.entries;
      touches : l.self-inside.shelf.touches + 1 * vec_len l.self-inside.log ≤ l.initial.self-inside.shelf.touches + 1 * vec_len l.initial.self-inside.log;
      counted : l.initial.self-inside.shelf.touches ≤ l.self-inside.shelf.touches;
    }

abbrev pub decreases-loop-change : goal.decreases-loop-change
decreases-loop-change g l = vec_len l.self-inside.log
