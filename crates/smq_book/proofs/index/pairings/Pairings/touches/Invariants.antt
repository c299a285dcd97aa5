-- The touches so far are those that went, and of the pairs so far.
use Rattle.std.proofs.Common.{◌≡◌, ◌+◌}
use Rattle.std.specs.List.{sum_by}
use Rattle.smq_book.specs.index.Touches.{counted}
use Rattle.smq_book.proofs.index.pairings.Pairings.touches.Given as goal

abbrev pub invariant-loop-pairing : goal.invariant-loop-pairing
invariant-loop-pairing l = l.touches ≡ counted (l.self.gone + sum_by (λ v. v.now.touches) l.yielded)
