-- Moments of a connection's directions, in ms since 1970 in UTC.
use Rattle.std.specs.Prelude.{ℕ, min, Option, Some, None}

-- the lesser of two moments, where there is one
abbrev pub least_of : Option ℕ → Option ℕ → Option ℕ
least_of (Some one) (Some other) = Some (min one other)
least_of (Some one) None = Some one
least_of None other = other
