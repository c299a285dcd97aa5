-- What a call does to what is stored, and what it leaves.
use Rattle.std.specs.Prelude.{◌≡◌, ◌≤◌, ◌+◌, ℕ, List}
use Rattle.smq_book.specs.declared.index.index.Index.{Index}
use Rattle.smq_book.specs.index.Held.{IsHeld, held_now, held_settled}
use Rattle.smq_book.specs.index.Pushed.{IsHeldAfter}
use Rattle.smq_book.specs.index.Touches.{RisesWithFacts, index_cost}
use Rattle.smq_present.specs.join.Moves.{Move}
use Rattle.smq_present.specs.present.Settings.{SettingsValue}

-- what is held is that of the traffic after these moves, and touches rise where facts change
pub record Goes (moves : List Move) (old new : Index) : Type 0 where
  pub held : (s : SettingsValue) → IsHeld s (held_now old) → IsHeldAfter s (held_now old) moves (held_now new)
  pub rises : RisesWithFacts old new

-- whatever comes of it, `undo` brings back the same, the groups stay, and it costs so much at most
pub record Keeps (cost : ℕ) (old new : Index) : Type 0 where
  pub settled : held_settled new ≡ held_settled old
  pub groups : new.groups ≡ old.groups
  pub touches : index_cost new ≤ index_cost old + cost
