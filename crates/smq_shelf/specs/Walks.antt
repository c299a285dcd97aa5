-- What a walk from place to place leaves of a map that can be undone, and what it has left to meet.
use Rattle.std.specs.Prelude.{◌≡◌, ◌≤◌, ◌+◌, ℕ, Bool, ◌&&◌, List, [], ◌∷◌, filter, Option, Some, None}
use Rattle.std.specs.declared.cmp.Ordering.{Ordering}
use Rattle.std.specs.Ordering.{is_lt}
use Rattle.smq_shelf.specs.Keeping.{Keeping}

-- A map that was read.
pub record Stays {K V : Type 0} (old new : Keeping K V) : Type 0 where
  pub content : new.content ≡ old.content
  pub settled : new.settled ≡ old.settled
  pub places : new.places ≡ old.places
  pub past : new.past ≡ old.past
  pub pending : new.pending ≡ old.pending
  pub counted : old.touches ≤ new.touches

-- A map that was read, by at most so many calls.
pub record IsWalked {K V : Type 0} (calls : ℕ) (old new : Keeping K V) : Type 0 where
  pub content : new.content ≡ old.content
  pub settled : new.settled ≡ old.settled
  pub places : new.places ≡ old.places
  pub past : new.past ≡ old.past
  pub pending : new.pending ≡ old.pending
  pub touches : new.touches ≤ old.touches + calls
  pub counted : old.touches ≤ new.touches

-- whether an entry stands above a key, and passes a test
abbrev pub stands_after : {K X : Type 0} → (K → K → Ordering) → (K × X → Bool) → K → K × X → Bool
stands_after R of k e = is_lt (R k e.0) && of e

-- what is left of a walk over the entries that pass: the one that was found, and those above it
abbrev pub left_above : {K X : Type 0} → (K → K → Ordering) → (K × X → Bool) → List (K × X) → Option (K × X) → List (K × X)
left_above R of es None = []
left_above R of es (Some found) = found ∷ filter (stands_after R of found.0) es
