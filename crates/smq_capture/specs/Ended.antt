-- Which segments are of a connection that ended, by the octets of its direction.
use Rattle.std.specs.Prelude.{◌≡◌, ℕ, ◌+◌, ◌<◌, ◌≤◌, ◌^◌, Bool, true, false}
use Rattle.smq_capture.specs.declared.ended.Span.{Span}
use Rattle.smq_capture.specs.Numbers.{number_behind}

-- octets stand among those of a direction, the one before its first, which a probe may have (RFC 9293, 3.8.4), and the one behind its last,
-- whose number a FIN has (3.4)
pub record StandsAmong (span : Span) (sequence length : ℕ) : Type 0 where
  pub far : ℕ
  pub near : far < 2 ^ 32
  pub same : number_behind sequence 1 ≡ number_behind span.first far
  pub within : far + length ≤ span.length + 2

-- a segment is of a direction: a SYN has the number before its first octet
abbrev pub IsOf : Span → ℕ → ℕ → Bool → Type 0
IsOf span sequence length true = number_behind sequence 1 ≡ span.first
IsOf span sequence length false = StandsAmong span sequence length
