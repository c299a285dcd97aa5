-- Numbers among octets, and parts of them.
use Rattle.std.specs.Prelude.{ℕ, ◌-◌, Bool, if◌then◌else◌, List, take, drop}
use Rattle.byteorder.specs.Endian.{big_number, little_number}

-- the number of so many octets from a place on, the first of which counts most
abbrev pub number : ℕ → ℕ → List ℕ → ℕ
number n at octets = big_number n (drop at octets)

-- that of which the first counts least
abbrev pub low_number : ℕ → ℕ → List ℕ → ℕ
low_number n at octets = little_number n (drop at octets)

-- that of a file, which says how its numbers stand
abbrev pub ordered_number : Bool → ℕ → ℕ → List ℕ → ℕ
ordered_number is_big n at octets = if is_big then number n at octets else low_number n at octets

-- the octets from one place to another, as far as there are such
abbrev pub between : ℕ → ℕ → List ℕ → List ℕ
between from until octets = take (until - from) (drop from octets)
