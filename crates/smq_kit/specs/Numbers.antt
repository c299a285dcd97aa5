-- Numbers of E.164 and network codes of E.212.
use Rattle.std.specs.Prelude.{◌≤◌, List, ℕ, length}
use Rattle.std.specs.List.{AllPass}
use Rattle.std.specs.Char.{is_ascii_digit}

-- 1 to 15 decimal digits (E.164, section 6)
pub record IsDigits (text : List ℕ) : Type 0 where
  pub not_empty : 1 ≤ length text
  pub in_range : length text ≤ 15
  pub digits : AllPass is_ascii_digit text

-- 5 or 6 decimal digits: a country code of 3, and a network code of 2 or 3 (E.212, section 4)
pub record IsNetwork (text : List ℕ) : Type 0 where
  pub low : 5 ≤ length text
  pub high : length text ≤ 6
  pub digits : AllPass is_ascii_digit text
