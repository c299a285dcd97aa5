-- The numbers of the sessions that are made of one.
use Rattle.std.specs.Prelude.{ℕ, ◌+◌, ◌*◌, ◌%◌}

-- the number of the session that is made of one for a period
abbrev pub session_number : ℕ → ℕ → ℕ
session_number session period = session * 1000000000 + period % 1000000000
