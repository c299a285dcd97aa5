-- The value of an option, option by option.
use Rattle.std.proofs.Common.{◌≡◌, ◌≢◌, ℕ, zero, suc, ◌+◌, ◌-◌, ◌*◌, ◌/◌, ◌<◌, ◌≤◌, ◌==◌, ◌||◌, nat_lt, if◌then◌else◌, Bool, true, false, List, length, Option, Some, None, arith, refl, add-one}
use Rattle.std.proofs.lemmas.Grind.{common_steps}
use Rattle.smq_packets.specs.Numbers.{ordered_number, between}
use Rattle.smq_packets.specs.Options.{next_option, option_within}

option_step : (m : ℕ) (is_big : Bool) (code : ℕ) (rest : List ℕ) → option_within (m + 1) is_big code rest ≡
    (if nat_lt (length rest) 4 || ordered_number is_big 2 0 rest == 0 then None
    else if ordered_number is_big 2 0 rest == code then Some (between 4 (4 + ordered_number is_big 2 2 rest) rest)
    else option_within m is_big code (between (next_option is_big rest) (length rest) rest))
unfolding option_within
option_step m is_big code rest = rw add-one refl

-- none stands within three octets, or behind the end of options
pub option_short : (n : ℕ) (is_big : Bool) (code : ℕ) (rest : List ℕ) → length rest < 4 → option_within n is_big code rest ≡ None
unfolding option_within
option_short zero is_big code rest short = refl
option_short (suc n) is_big code rest short = grind (arith, common_steps)

pub option_ended : (n : ℕ) (is_big : Bool) (code : ℕ) (rest : List ℕ) → ordered_number is_big 2 0 rest ≡ 0 →
    option_within n is_big code rest ≡ None
unfolding option_within
option_ended zero is_big code rest ended = refl
option_ended (suc n) is_big code rest ended = grind (arith, common_steps)

option_found_at : (n m : ℕ) (is_big : Bool) (code : ℕ) (rest : List ℕ) → n ≡ m + 1 → 4 ≤ length rest →
    ordered_number is_big 2 0 rest ≢ 0 → ordered_number is_big 2 0 rest ≡ code →
    option_within n is_big code rest ≡ Some (between 4 (4 + ordered_number is_big 2 2 rest) rest)
option_found_at n m is_big code rest one_more whole goes_on found = rw (one_more, option_step) (grind (arith, common_steps))

-- one with the code is the first
pub option_found : (n : ℕ) (is_big : Bool) (code : ℕ) (rest : List ℕ) → 0 < n → 4 ≤ length rest →
    ordered_number is_big 2 0 rest ≢ 0 → ordered_number is_big 2 0 rest ≡ code →
    option_within n is_big code rest ≡ Some (between 4 (4 + ordered_number is_big 2 2 rest) rest)
option_found n is_big code rest some whole goes_on found =
    option_found_at n (n - 1) is_big code rest (omega arith) whole goes_on found

-- any other leads on
pub option_on : (n m : ℕ) (is_big : Bool) (code : ℕ) (rest : List ℕ) → n ≡ m + 1 → 4 ≤ length rest →
    ordered_number is_big 2 0 rest ≢ 0 → ordered_number is_big 2 0 rest ≢ code →
    option_within n is_big code rest ≡ option_within m is_big code (between (next_option is_big rest) (length rest) rest)
option_on n m is_big code rest one_more whole goes_on other = rw (one_more, option_step) (grind (arith, common_steps))

-- none is the first of none
pub option_none : (n : ℕ) (is_big : Bool) (code : ℕ) (rest : List ℕ) → n ≡ 0 → option_within n is_big code rest ≡ None
unfolding option_within
option_none n is_big code rest none = rw none refl

pub ruleset option_rules = (option_short, option_ended, option_found, option_on, option_none)
