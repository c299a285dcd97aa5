use Rattle.std.proofs.Common.{◌<◌, ℕ}
use Rattle.std.specs.Prelude.{◌==◌}
use Rattle.smq_streams.specs.Sight.{IsSeen}
use Rattle.smq_streams.proofs.headers.first_pdu.Given as goal

abbrev pub invariant-loop-at : goal.invariant-loop-at
invariant-loop-at l = (n : ℕ) → n < l.at → IsSeen l.octets n (n == 0) → ⊥
