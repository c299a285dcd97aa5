-- Sequence numbers of TCP, which count modulo 2^32 (RFC 9293, 3.4).
use Rattle.std.specs.Prelude.{◌≡◌, ℕ, ◌+◌, ◌%◌, ◌^◌, ◌≤◌, ◌⊎◌}
use Rattle.smq_capture.specs.declared.numbers.Heard.{Heard}

-- the number behind so many octets of which the first has this one
abbrev pub number_behind : ℕ → ℕ → ℕ
number_behind sequence length = (sequence + length) % 2 ^ 32

-- a number is another one or ahead of it, by so much at most
pub record Reaches (from sequence most : ℕ) : Type 0 where
  pub far : ℕ
  pub within : far ≤ most
  pub same : sequence ≡ number_behind from far

-- two numbers are within a window of each other
abbrev pub AreNear : ℕ → ℕ → Type 0
AreNear one other = Reaches other one 16777216 ⊎ Reaches one other 16777216

-- a later segment is of the connection of one before, by its numbers: in that one's direction it stands behind its octets or has them
-- acknowledged, and in the other it is near to what that one acknowledged. A host acknowledges nothing outside of its window, and so not
-- what is another connection's (RFC 9293, 3.10.7.4)
abbrev pub Follows : Heard → ℕ → ℕ → Type 0
Follows before own other = Reaches before.behind own 16777216 × AreNear before.acknowledged other
