-- What std's parse gives at a decimal without a sign and without leading zeros.
use Rattle.std.proofs.Common.{◌≡◌, ◌≢◌, ◌<◌, ◌^◌, ℕ, List, [], ◌∷◌, length, get_or, true, false, inl, inr, Ok, arith, ap, sym, ◌∙◌, subst}
use Rattle.std.specs.Fmt.{decimal}
use Rattle.std.specs.Int.{IsInRange}
use Rattle.std.specs.Str.Parse.{AllDigits, ParsesUnsigned, digits_value}
use Rattle.std.proofs.lemmas.Bool.{cases_lt}
use Rattle.std.proofs.lemmas.Bool.Decides.{nat_tests}
use Rattle.std.proofs.lemmas.Fmt.{decimal-digits_value, decimal_digit, decimal_injective, decimal_is_IsNumeral, first_decimal}
use Rattle.std.proofs.lemmas.Str.Parse.{IsNumeralModel, digit_from_value, numerals_by_value, parse_plain, tells_digits}
use Rattle.std.specs.declared.num.ParseIntError.{ParseIntError}
use Rattle.smq_add.specs.Numbers.{begins_as_number}

own : IsNumeralModel (AllDigits 10) (digits_value 10)
own = numerals_by_value (AllDigits 10) tells_digits

no_plus : (bs : List ℕ) → begins_as_number bs ≡ true → get_or bs 0 0 ≢ 43
no_plus [] h = grind (arith, h)
no_plus (b ∷ bs) h = grind (arith, nat_tests, h)

zero_alone : (bs : List ℕ) → begins_as_number bs ≡ true → get_or bs 0 0 ≡ 48 → length bs ≡ 1
zero_alone [] h zero = grind (arith, h)
zero_alone (b ∷ bs) h zero = grind (arith, nat_tests, h, zero)

-- where such a text is parsed, it is the number's decimal
pub parsed_is_decimal : (bs : List ℕ) (n : ℕ) → begins_as_number bs ≡ true → ParsesUnsigned {E = ParseIntError} 64 10 bs (Ok n) → bs ≡ decimal n
parsed_is_decimal bs n begins parses =
    let parts = parse_plain own {E = ParseIntError} 64 bs (Ok n) parses (no_plus bs begins) in
    sym (ap decimal parts.1 ∙ decimal-digits_value own bs parts.0.0 parts.0.1 (zero_alone bs begins) parts.0.2)

first_digit : (b : ℕ) (bs : List ℕ) → begins_as_number (b ∷ bs) ≡ false → IsInRange 48 57 b → (b ≡ 48) × (0 < length bs)
first_digit b bs h range = grind (arith, nat_tests, h, range)

-- the decimal of a number is such a text
pub decimal_begins : (bs : List ℕ) (n : ℕ) → n < 2 ^ 64 → bs ≡ decimal n → begins_as_number bs ≡ false → ⊥
decimal_begins [] n low is begins =
    let some : 0 < length (decimal n) = (decimal_is_IsNumeral n low).0.0 in
    grind (arith, subst (λ (ds : List ℕ). 0 < length ds) (sym is) some)
decimal_begins (b ∷ bs) n low is begins =
    let digits = subst (λ (ds : List ℕ). AllDigits 10 ds) (sym is) (decimal_is_IsNumeral n low).0.1 in
    let range = digit_from_value b digits.0 in
    let first = first_digit b bs begins range in
    elim (cases_lt 0 n) [
      | inl above ↦
          let greater : 48 < b = subst (λ (ds : List ℕ). 48 < get_or ds 0 0) (sym is) (first_decimal n above low) in
          omega (arith, greater, first.0)
      | inr none ↦
          let zero : n ≡ 0 = omega (arith, none) in
          let one : length (b ∷ bs) ≡ 1 = ap length (is ∙ ap decimal zero ∙ decimal_digit 0 (omega arith)) in
          omega (arith, one, first.1)
    ]

-- two numbers with one decimal are one
pub decimals_agree : (bs : List ℕ) (m n : ℕ) → m < 2 ^ 64 → n < 2 ^ 64 → bs ≡ decimal m → bs ≡ decimal n → m ≡ n
decimals_agree bs m n small low is same = decimal_injective m n small low (sym is ∙ same)
