-- Texts that wait to be written.
use Rattle.std.specs.Prelude.{◌≡◌, ℕ, ◌<◌, true, cond, List, [], ◌∷◌, ◌++◌, length}
use Rattle.std.specs.Io.KnownBytes.{Appends, Keeps, append_known}
use Rattle.smq_parts.specs.Parts.{Texts, is_part}
use Rattle.smq_parts.specs.declared.by.Part.{Part}
use Rattle.smq_parts.specs.declared.gathered.Waiting.{Waiting}

-- what waits for a script, in order
abbrev pub waits_for : Part → List Waiting → List ℕ
waits_for part [] = []
waits_for part (w ∷ ws) = cond (is_part part w.part) w.text.items [] ++ waits_for part ws

-- the text of each script, and what waits for it
abbrev pub held : Texts → List Waiting → Texts
held texts waiting = λ part. append_known (texts part) (waits_for part waiting)

-- texts are put, one after the other
abbrev pub PutsAll : List Waiting → Texts → Texts → Type 0
PutsAll waiting before after = (part : Part) → Appends (before part) (after part) (waits_for part waiting)

-- texts stay as they were
abbrev pub Stay : Texts → Texts → Type 0
Stay before after = (part : Part) → Keeps (before part) (after part)

-- a text is put after what waits for one script
abbrev pub IsAdded : Part → List ℕ → List Waiting → List Waiting → Type 0
IsAdded to text before after = (part : Part) → waits_for part after ≡ waits_for part before ++ cond (is_part part to) text []

-- a place has text for a script, and none behind it has some
abbrev pub IsAt : Part → List Waiting → ℕ → Type 0
IsAt part waiting place =
    (place < length waiting) × (front : List Waiting) × (w : Waiting) × (back : List Waiting)
    × (waiting ≡ front ++ w ∷ back) × (length front ≡ place) × (is_part part w.part ≡ true) × (waits_for part back ≡ [])
