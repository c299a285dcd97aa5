-- What a shelf is once a shared borrow of it ends.
use Rattle.std.specs.Prelude.{◌≡◌, ◌≤◌, ⊤}
use Rattle.std.specs.Borrow.{Fml, MutBor, RattleType, follows_so}
use mathlib.Core.Option.{none}
use Rattle.std.specs.BTreeMap.Lent.{OrdMembers}
use Rattle.smq_shelf.specs.Shown.{Shown, touched}
use Rattle.smq_shelf.specs.contracts.shelf.Shelf.{the_row}

-- the row of a shelf
abbrev pub shelf_row : (K V : RattleType) → OrdMembers K.Denot → RattleType
shelf_row K V g = the_row K V (record { cmp = g.cmp }) (record { eq = g.eq }) (record { partial_cmp = g.partial_cmp })

-- s ends with the same entries and one touch more
abbrev pub LeavesShelf : (K V : RattleType) (g : OrdMembers K.Denot) → MutBor (Shown K.Denot V.Denot) → Shown K.Denot V.Denot → Fml
LeavesShelf K V g s old = follows_so (shelf_row K V g) (shelf_row K V g) s.ghost_name none (λ _ _. ⊤) (λ n. (n.entries ≡ old.entries) × (n.touches ≡ touched old.touches) × (old.touches ≤ n.touches))
