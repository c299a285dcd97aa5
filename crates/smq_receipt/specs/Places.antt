-- The least place that passes a test.
use Rattle.std.specs.Prelude.{◌≡◌, ℕ, zero, suc, ◌<◌, Bool, true, false, if◌then◌else◌, Option, Some, None}
use Rattle.std.specs.Option.{option_or}

-- the least number below a bound that passes a test
unfoldable pub least_below : (ℕ → Bool) → ℕ → Option ℕ
least_below test zero = None
least_below test (suc n) = option_or (least_below test n) (if test n then Some n else None)

-- A number below a bound passes a test, and no lower one does.
pub record IsLeast (test : ℕ → Bool) (bound place : ℕ) : Type 0 where
  pub within : place < bound
  pub passes : test place ≡ true
  pub least : (lower : ℕ) → lower < place → test lower ≡ false

-- What is computed as the least number is the least that passes; there is one wherever any passes.
pub record FindsTheLeast : Type 0 where
  pub found : (test : ℕ → Bool) (bound place : ℕ) → least_below test bound ≡ Some place
      → IsLeast test bound place
  pub only : (test : ℕ → Bool) (bound place : ℕ) → IsLeast test bound place
      → least_below test bound ≡ Some place
  pub none : (test : ℕ → Bool) (bound place : ℕ) → least_below test bound ≡ None
      → place < bound → test place ≡ false
