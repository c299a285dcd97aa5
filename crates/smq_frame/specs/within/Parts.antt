-- How a rest is kept, in two parts one after the other.
use Rattle.std.specs.Prelude.{◌≡◌, ℕ, ◌≤◌, ◌⊎◌, List, [], length}

-- the settled part states a length unless it is empty, and the recent part is short
pub record IsParted (settled recent : List ℕ) : Type 0 where
  pub states : (settled ≡ []) ⊎ (4 ≤ length settled)
  pub short : length recent ≤ 512
