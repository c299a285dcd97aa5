use Rattle.std.proofs.Common.{ℕ, length}
use Rattle.smq_window.specs.within.Standing.{AllShown, Known, Passes}
use Rattle.smq_window.proofs.window.pass.Given as goal

abbrev pub invariant-loop-first : goal.invariant-loop-first
invariant-loop-first l =
    (known : Known) (present : ℕ) → AllShown known l.oldest present l.initial.connections
    → Passes known l.oldest present l.initial.made.items l.initial.rows.items l.connections l.made.items l.rows.items

abbrev pub decreases-loop-first : goal.decreases-loop-first
decreases-loop-first l = length l.made.items
