-- Since when the other end acknowledges a place of a direction.
use Rattle.std.specs.Prelude.{ℕ, ◌≤◌, nat_le, if◌then◌else◌, List, [], ◌∷◌, Option, Some, None}
use Rattle.smq_streams.specs.declared.acknowledged.Note.{Note}

-- what one note of a moment says of a place: that the other end has all octets before it
abbrev pub noted : ℕ → ℕ → ℕ → Option ℕ
noted place moment n = if nat_le n place then Some moment else None

-- the moment of the first note of a place or one behind it
abbrev pub since : List Note → ℕ → Option ℕ
since [] n = None
since (note ∷ notes) n = if nat_le n note.place then Some note.moment else since notes n

-- the first note is of a place or one behind it
abbrev pub StandsBehind : ℕ → List Note → Type 0
StandsBehind place [] = Unit {0}
StandsBehind place (note ∷ notes) = place ≤ note.place
