use Rattle.std.proofs.Common.{◌≡◌, ℕ, length}
use Rattle.smq_streams.specs.Search.{BeginNone, beyond}
use Rattle.smq_streams.proofs.seeker.Seeker.find.Given as goal

abbrev pub invariant-octets : goal.invariant-octets
invariant-octets l = (n : ℕ) × BeginNone l.is_end l.initial.self.octets n × (l.self ≡ beyond n l.initial.self)

abbrev pub decreases-octets : goal.decreases-octets
decreases-octets l = length l.self.octets
