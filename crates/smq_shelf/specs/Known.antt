-- Maps of which it is known what they show, and logs of which it is known what they take back.
use Rattle.std.specs.Prelude.{ℕ, List, [], ◌∷◌, Option, Some, None}
use Rattle.smq_shelf.specs.within.Undoing.{Logged}

-- places of the keys 1, 2 and 4, of which the second is vacant
abbrev pub three_places : List (ℕ × Option ℕ)
three_places = (1, Some 10) ∷ (2, None) ∷ (4, Some 40) ∷ []

-- places that are all vacant
abbrev pub vacant_places : List (ℕ × Option ℕ)
vacant_places = (1, None) ∷ (2, None) ∷ []

-- entries of the keys 1 and 4
abbrev pub two_entries : List (ℕ × ℕ)
two_entries = (1, 10) ∷ (4, 40) ∷ []

-- the places once key 3 had been put in with 30, then changed to 31, and key 1 been taken out
abbrev pub changed_places : List (ℕ × Option ℕ)
changed_places = (1, None) ∷ (3, Some 31) ∷ (4, Some 40) ∷ []

-- the log of these three changes, the newest first
abbrev pub three_changes : List (Logged ℕ ℕ)
three_changes = (1, Some (Some 10)) ∷ (3, Some (Some 30)) ∷ (3, None) ∷ []
