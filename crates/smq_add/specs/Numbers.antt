-- Numbers as texts.
use Rattle.std.specs.Prelude.{ℕ, Bool, false, not, ◌==◌, ◌&&◌, ◌||◌, List, [], ◌∷◌, length}

-- whether a text has no sign and no leading zero
abbrev pub begins_as_number : List ℕ → Bool
begins_as_number [] = false
begins_as_number (first ∷ rest) = not (first == 43) && (not (first == 48) || length rest == 0)
