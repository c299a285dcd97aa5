-- Lists of sealed chunks.
use Rattle.std.specs.Prelude.{◌≡◌, ◌-◌, ℕ, min, List, [], ◌∷◌, ◌++◌, length}
use Rattle.std.specs.Arc.{arc_value}
use Rattle.std.specs.declared.sync.Arc.{Arc}
use Rattle.smq_desk.specs.declared.entry.Entry.{Entry}

module _ {Z : Type 0} where
  -- the chunks' entries, one chunk after another
  abbrev pub joined : List (Arc (List Entry) Z) → List Entry
  joined [] = []
  joined (c ∷ chunks) = arc_value c ++ joined chunks

  -- each chunk has as many entries as a chunk has
  abbrev pub AreFull : List (Arc (List Entry) Z) → Type 0
  AreFull [] = Unit {0}
  AreFull (c ∷ chunks) = (length (arc_value c) ≡ 1024) × AreFull chunks

  -- the entries become one chunk more, after the others
  pub record Seals (old new : List (Arc (List Entry) Z)) (entries : List Entry) : Type 0 where
    pub full : AreFull old → AreFull new
    pub all : joined new ≡ joined old ++ entries

  -- they are owners of the same chunks, one by one
  abbrev pub AreShared : List (Arc (List Entry) Z) → List (Arc (List Entry) Z) → Type 0
  AreShared [] [] = Unit {0}
  AreShared [] (d ∷ ds) = ⊥
  AreShared (c ∷ cs) [] = ⊥
  AreShared (c ∷ cs) (d ∷ ds) = (arc_value d ≡ arc_value c) × AreShared cs ds

-- how many entries more go after the chunks without memory, where there are so many and room for so many in all
abbrev pub room_in : List Entry → ℕ → ℕ
room_in entries capacity = min capacity 1024 - length entries
