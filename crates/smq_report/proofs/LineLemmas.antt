-- Lines one by one, and behind their columns; pages on which nothing waits.
use Rattle.std.proofs.Common.{◌≡◌, ◌∙◌, ℕ, suc, ◌+◌, ◌<◌, add-one, drop, get_or, length, length-append, List, [], ◌∷◌, ◌++◌, refl, sym, ap, arith}
use Rattle.std.proofs.Math.Seq.{drop-cons}

-- a list from an item on: that item, and what follows it
pub drop-item : {X : Type 0} (all : List X) (index : ℕ) (item : X) → index < length all → item ≡ get_or all index item
    → drop index all ≡ item ∷ drop (index + 1) all
drop-item {X} all index item inside is =
    rw add-one (drop-cons all index item inside ∙ ap (λ (first : X). first ∷ drop (suc index) all) (sym is))

-- lines behind columns that were put on an empty page
pub behind-columns : (page empty columns lines : List ℕ) → page ≡ empty ++ columns → empty ≡ [] → page ++ lines ≡ columns ++ lines
behind-columns page empty columns lines put none = rw (put, none) refl

-- where nothing waits, less is gathered than any number above 0
pub nothing-gathered : (gathered pending : List ℕ) (most : ℕ) → 0 < most → gathered ++ pending ≡ [] → length gathered < most
nothing-gathered gathered pending most some empty = omega (arith, ap length empty, length-append gathered pending)
