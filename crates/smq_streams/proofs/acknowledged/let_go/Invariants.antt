use Rattle.std.proofs.Common.{◌≡◌, ◌≤◌, ℕ, length}
use Rattle.smq_streams.specs.Acknowledged.{since}
use Rattle.smq_streams.proofs.acknowledged.let_go.Given as goal

abbrev pub invariant-notes : goal.invariant-notes
invariant-notes l = (n : ℕ) → l.place ≤ n → since l.notes.items n ≡ since l.initial.notes.items n

abbrev pub decreases-notes : goal.decreases-notes
decreases-notes l = length l.notes.items
