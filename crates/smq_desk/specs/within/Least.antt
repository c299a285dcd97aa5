-- The least of numbers.
use Rattle.std.specs.Prelude.{◌≡◌, ◌<◌, ◌≤◌, ◌⊎◌, nat_le, ℕ, if◌then◌else◌, List, All, Option, Some, None}
use Rattle.smq_desk.specs.declared.entry.Call.{Call}

-- the lesser of two numbers that may be absent
abbrev pub earlier : Option ℕ → Option ℕ → Option ℕ
earlier None other = other
earlier (Some one) None = Some one
earlier (Some one) (Some other) = Some (if nat_le one other then one else other)

-- the lesser of two numbers
abbrev pub IsLesser : ℕ → ℕ → ℕ → Type 0
IsLesser one other least = ((least ≡ one) × (one ≤ other)) ⊎ ((least ≡ other) × (other < one))

-- The least of a number and those of calls: neither it nor any call's is less, and where each call's is greater it is that
-- number.
pub record IsLeastOf (number : ℕ) (calls : List Call) (least : ℕ) : Type 0 where
  pub up_to : least ≤ number
  pub each : All (λ c. least ≤ c.number) calls
  pub there : All (λ c. least < c.number) calls → least ≡ number
