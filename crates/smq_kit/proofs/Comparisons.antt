-- What follows of comparisons that come out equal or less, and of tests that are joined.
use Rattle.std.proofs.Common.{◌≡◌, ℕ, Bool, true, false, ◌||◌, refl, arith}
use Rattle.std.specs.Prelude.{T, ◌&&◌}
use Rattle.std.specs.declared.cmp.Ordering.{Ordering}
use Rattle.std.specs.declared.cmp.Ordering.TheVariants.{Less, Equal, Greater}
use Rattle.std.specs.Ordering.{is_le, is_lt, is_eq, nat_cmp, ordering_then}
use Rattle.std.proofs.lemmas.Bool.Decides.{nat_tests}

-- what passes the test of equality is equal
pub is_equal : (r : Ordering) → is_eq r ≡ true → r ≡ Equal
is_equal Less e = absurd cc
is_equal Equal e = refl
is_equal Greater e = absurd cc

-- what passes the test of being less is less
pub is_less : (r : Ordering) → T (is_lt r) → r ≡ Less
is_less Less h = refl
is_less Equal h = absurd h
is_less Greater h = absurd h

-- two comparisons in turn that come out equal are each equal
pub then_first : (p q : Ordering) → ordering_then p q ≡ Equal → p ≡ Equal
then_first Less q e = e
then_first Equal q e = refl
then_first Greater q e = e

pub then_second : (p q : Ordering) → ordering_then p q ≡ Equal → q ≡ Equal
then_second Less q e = absurd cc
then_second Equal q e = e
then_second Greater q e = absurd cc

-- an equality in the second turn changes nothing
pub then_equal : (r : Ordering) → ordering_then r Equal ≡ r
then_equal Less = refl
then_equal Equal = refl
then_equal Greater = refl

-- two comparisons in turn of what is below or the same
pub then_le : (p q : Ordering) → is_le p ≡ true → is_le q ≡ true → is_le (ordering_then p q) ≡ true
then_le Less q h k = refl
then_le Equal q h k = k
then_le Greater q h k = h

-- where the second is of such, the first alone tells
pub then_least : (p q : Ordering) → is_le q ≡ true → is_le (ordering_then p q) ≡ is_le p
then_least Less q h = refl
then_least Equal q h = h
then_least Greater q h = refl

pub le_zero : (n : ℕ) → is_le (nat_cmp 0 n) ≡ true
le_zero n = grind (arith, nat_tests)

-- where neither of two tests passes, each fails
pub or_first : (a b : Bool) → (a || b) ≡ false → a ≡ false
or_first true b e = absurd cc
or_first false b e = refl

pub or_second : (a b : Bool) → (a || b) ≡ false → b ≡ false
or_second true b e = absurd cc
or_second false b e = e

-- where both of two tests pass, each passes
pub first_test : (a b : Bool) → T (a && b) → T a
first_test true b h = tt
first_test false b h = absurd h

pub second_test : (a b : Bool) → T (a && b) → T b
second_test true b h = h
second_test false b h = absurd h

pub both_tests : (a b : Bool) → T a → T b → T (a && b)
both_tests true b g h = h
both_tests false b g h = absurd g
