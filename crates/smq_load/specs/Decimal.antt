-- Decimal numbers of a script.
use Rattle.std.specs.Prelude.{ℕ, ◌+◌, ◌-◌, ◌*◌, ◌^◌, nat_eq, nat_le, ◌&&◌, Bool, if◌then◌else◌, List, [], ◌∷◌, length, Option, Some, None}
use Rattle.std.specs.Char.{is_ascii_digit}
use Rattle.std.specs.List.{list_all}

-- the sum of each digit's value times the power of ten by which it counts
abbrev pub sum_of : List ℕ → ℕ
sum_of [] = 0
sum_of (digit ∷ digits) = (digit - 48) * 10 ^ length digits + sum_of digits

-- whether a text has 1 to 20 octets, each a decimal digit in ASCII
abbrev pub is_decimal : List ℕ → Bool
is_decimal text = nat_le 1 (length text) && nat_le (length text) 20 && list_all is_ascii_digit text

-- the number that a decimal says
abbrev pub decimal_of : List ℕ → Option ℕ
decimal_of text = if is_decimal text then Some (sum_of text) else None

-- a number, where it is not above the greatest
abbrev pub up_to : ℕ → Option ℕ → Option ℕ
up_to greatest None = None
up_to greatest (Some number) = if nat_le number greatest then Some number else None

-- a number, where it isn't 0
abbrev pub above_0 : Option ℕ → Option ℕ
above_0 None = None
above_0 (Some number) = if nat_eq number 0 then None else Some number

-- the number that a decimal says, where it is not above the greatest
abbrev pub decimal_to : ℕ → List ℕ → Option ℕ
decimal_to greatest text = up_to greatest (decimal_of text)
