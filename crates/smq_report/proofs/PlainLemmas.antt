-- No field of a report needs quotes in CSV.
use Rattle.std.proofs.Common.{◌≡◌, ℕ, ◌+◌, ◌/◌, ◌%◌, ◌==◌, ◌<◌, zero, suc, nat_lt, List, [], ◌∷◌, ◌++◌, true, false, refl, arith}
use Rattle.std.specs.Prelude.{codes, if◌then◌else◌}
use Rattle.std.specs.Char.{is_ascii_digit}
use Rattle.std.specs.Fmt.{decimal, digit_glyph, digits, digits_onto}
use Rattle.std.specs.List.{AllPass, list_all}
use Rattle.std.proofs.lemmas.Bool.{and_parts}
use Rattle.std.proofs.lemmas.Bool.Decides.{nat_tests}
use Rattle.std.proofs.lemmas.List.Folds.{list_any-append, list_any_none}
use Rattle.std.proofs.lemmas.List.Elements.{All-weaker}
use Rattle.csv.specs.Writing.{default_writer, needs_byte}
use Rattle.smq_kit.specs.ErrorTexts.{is_error_octet, is_error_text}
use Rattle.smq_kit.specs.Numbers.{IsNetwork}
use Rattle.smq_kit.specs.declared.error_code.ErrorCode.TheVariants as c
use Rattle.smq_tally.specs.declared.value.SubmitError.TheVariants as s
use Rattle.smq_report.specs.Csv.{IsPlain}
use Rattle.smq_report.specs.Values.{code_text, error_text}

pub plain_append : (a b : List ℕ) → IsPlain a → IsPlain b → IsPlain (a ++ b)
plain_append a b plain_a plain_b = rw (list_any-append, plain_a, plain_b) refl

plain_octet : (octet : ℕ) → is_error_octet octet ≡ true → needs_byte default_writer octet ≡ false
plain_octet octet h = grind (arith, nat_tests, h)

plain_octets : (octets : List ℕ) → list_all is_error_octet octets ≡ true → IsPlain octets
plain_octets [] h = refl
plain_octets (octet ∷ octets) h =
    let parts = and_parts _ _ h in rw (plain_octet octet parts.0) (plain_octets octets parts.1)

-- the octets of an error text
pub plain_error_text : (octets : List ℕ) → is_error_text octets ≡ true → IsPlain octets
plain_error_text octets h =
    let octets_are : list_all is_error_octet octets ≡ true = grind (arith, nat_tests, h) in plain_octets octets octets_are

digit_octet : (octet : ℕ) → is_ascii_digit octet ≡ true → is_error_octet octet ≡ true
digit_octet octet h = grind (arith, nat_tests, h)

plain_digits : (octets : List ℕ) → AllPass is_ascii_digit octets → IsPlain octets
plain_digits octets h = list_any_none (needs_byte default_writer) octets
    (All-weaker (λ octet. is_ascii_digit octet ≡ true) (λ octet. needs_byte default_writer octet ≡ false)
    (λ octet digit. plain_octet octet (digit_octet octet digit)) octets h)

-- the digits of a network's code
pub plain_network : (octets : List ℕ) → IsNetwork octets → IsPlain octets
plain_network octets h = plain_digits octets h.digits

plain_glyph : (number : ℕ) → needs_byte default_writer (digit_glyph false (number % 10)) ≡ false
plain_glyph number =
    let digit : number % 10 < 10 = omega arith in
    let octet : is_error_octet (48 + number % 10) ≡ true = grind (arith, nat_tests, digit) in
    let small : nat_lt (number % 10) 10 ≡ true = grind (arith, nat_tests, digit) in
    rw small (plain_octet (48 + number % 10) octet)

plain_onto : (places number : ℕ) (after : List ℕ) → IsPlain after → IsPlain (digits_onto places 10 false number after)
plain_onto zero number after h = h
plain_onto (suc places) number after h =
    let more : IsPlain (digit_glyph false (number % 10) ∷ after) = rw (plain_glyph number) h in
    elim (number / 10 == 0) as (λ last. IsPlain (if last then digit_glyph false (number % 10)
    ∷ after else digits_onto places 10 false (number / 10) (digit_glyph false (number % 10) ∷ after))) [
      | true ↦ more
      | false ↦ plain_onto places (number / 10) (digit_glyph false (number % 10) ∷ after) more
    ]

-- a number in decimal
pub plain_decimal : (number : ℕ) → IsPlain (decimal number)
unfolding digits
plain_decimal number = plain_onto 64 number [] refl

-- a command_status
pub plain_status : (status : ℕ) → IsPlain (error_text (s.Refused status))
plain_status status = plain_append (codes "status:") (decimal status) refl (plain_decimal status)

-- a network type and code
pub plain_net : (kind code : ℕ) → IsPlain (code_text (c.Network kind code))
plain_net kind code =
    plain_append (codes "net:" ++ decimal kind ++ codes ":") (decimal code)
    (plain_append (codes "net:" ++ decimal kind) (codes ":") (plain_append (codes "net:") (decimal kind) refl (plain_decimal kind)) refl)
    (plain_decimal code)
