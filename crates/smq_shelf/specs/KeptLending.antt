-- What a map that can be undone is once a shared borrow of it ends.
use Rattle.std.specs.Prelude.{◌≡◌, ◌≤◌, ⊤}
use Rattle.std.specs.Borrow.{Fml, MutBor, RattleType, follows_so}
use mathlib.Core.Option.{none}
use Rattle.std.specs.BTreeMap.Lent.{OrdMembers}
use Rattle.smq_shelf.specs.Keeping.{Keeping}
use Rattle.smq_shelf.specs.Shown.{touched}
use Rattle.smq_shelf.specs.contracts.kept.Kept.{the_row}

-- the row of such a map
abbrev pub kept_row : (K V : RattleType) → OrdMembers K.Denot → RattleType
kept_row K V g = the_row K V (record { cmp = g.cmp }) (record { eq = g.eq }) (record { partial_cmp = g.partial_cmp })

-- a map that was read: all is as it was, and there is one touch more
pub record IsRead {K V : Type 0} (old new : Keeping K V) : Type 0 where
  pub content : new.content ≡ old.content
  pub settled : new.settled ≡ old.settled
  pub places : new.places ≡ old.places
  pub past : new.past ≡ old.past
  pub pending : new.pending ≡ old.pending
  pub touches : new.touches ≡ touched old.touches
  pub counted : old.touches ≤ new.touches

-- s ends as read
abbrev pub LeavesKept : (K V : RattleType) (g : OrdMembers K.Denot) → MutBor (Keeping K.Denot V.Denot) → Keeping K.Denot V.Denot → Fml
LeavesKept K V g s old = follows_so (kept_row K V g) (kept_row K V g) s.ghost_name none (λ _ _. ⊤) (λ n. IsRead old n)
