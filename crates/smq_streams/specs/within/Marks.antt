-- The octets of a search as the code keeps them: their values, and marks of the packets that brought them.
use Rattle.std.specs.Prelude.{◌≡◌, ℕ, ◌<◌, ◌≤◌, List, [], ◌∷◌, ◌++◌, length, take, drop, Option, Some, None}
use Rattle.smq_reassembly.specs.Octet.{Octet, octets_of}
use Rattle.smq_streams.specs.declared.seeker.Mark.{Mark}

-- the first mark, and those behind it
abbrev pub marks_of : Option Mark → List Mark → List Mark
marks_of None others = others
marks_of (Some first) others = first ∷ others

-- the octets, by their marks
abbrev pub octets_by : List Mark → List ℕ → List Octet
octets_by [] octets = []
octets_by (m ∷ ms) octets =
    octets_of m.packet m.begins (take m.left octets) ++ octets_by ms (drop m.left octets)

-- each octet has a mark, and each mark an octet
abbrev pub AreMarked : List Mark → List ℕ → Type 0
AreMarked [] octets = octets ≡ []
AreMarked (m ∷ ms) octets =
    (0 < m.left) × (m.left ≤ length octets) × AreMarked ms (drop m.left octets)

-- what is kept: how many octets were looked at, and marks of those behind them
pub record IsKept (octets : List ℕ) (looked : ℕ) (first : Option Mark) (others : List Mark) : Type 0 where
  pub within : looked ≤ length octets
  pub marked : AreMarked (marks_of first others) (drop looked octets)
  pub front : first ≡ None → others ≡ []
