-- What is printed of a number tells which it is.
use Rattle.std.proofs.Common.{◌≡◌, ◌<◌, ◌^◌, ◌∙◌, ℕ, List, ap, sym, arith}
use Rattle.std.specs.Fmt.{decimal}
use Rattle.std.specs.Str.Parse.{digits_value}
use Rattle.std.proofs.lemmas.Fmt.{decimal_is_IsNumeral_wide}

pub numbers-apart : (a b : ℕ) → a < 2 ^ 128 → b < 2 ^ 128 → decimal a ≡ decimal b → a ≡ b
numbers-apart a b small other alike =
    sym (decimal_is_IsNumeral_wide a (omega (arith, small))).1
    ∙ ap (λ (text : List ℕ). digits_value 10 text) alike
    ∙ (decimal_is_IsNumeral_wide b (omega (arith, other))).1
