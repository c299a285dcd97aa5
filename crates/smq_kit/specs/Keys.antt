-- The key of a message id under the form in which a centre writes ids.
use Rattle.std.specs.Prelude.{ℕ, ◌+◌, ◌*◌, ◌-◌, ◌^◌, nat_lt, nat_le, ◌&&◌, if◌then◌else◌, List, [], ◌∷◌, length, Option, Some, None, is_some, unwrap_or, option_and_then}
use Rattle.std.specs.List.{list_all}
use Rattle.smq_kit.specs.declared.message_id.Form.{Form}
use Rattle.smq_kit.specs.declared.message_id.Form.TheVariants.{Verbatim, Decimal, Hexadecimal}
use Rattle.smq_kit.specs.declared.message_id.Key.{Key}
use Rattle.smq_kit.specs.declared.message_id.Key.TheVariants.{Number, Text}

-- what an octet counts as a digit: `0` to `9`, and then `a` to `f` and `A` to `F`
abbrev pub value_of : ℕ → Option ℕ
value_of octet =
    if nat_le 48 octet && nat_le octet 57 then Some (octet - 48)
    else (if nat_le 97 octet && nat_le octet 102 then Some (octet - 87)
    else (if nat_le 65 octet && nat_le octet 70 then Some (octet - 55) else None))

-- a number, where it is below a limit
abbrev pub number_below : ℕ → ℕ → Option ℕ
number_below limit number = if nat_lt number limit then Some number else None

-- what an octet counts as a digit of a base
abbrev pub value_in : ℕ → ℕ → Option ℕ
value_in base octet = option_and_then (number_below base) (value_of octet)

-- the sum of each digit's value times the power of the base by which it counts
abbrev pub sum_in : ℕ → List ℕ → ℕ
sum_in base [] = 0
sum_in base (octet ∷ octets) = unwrap_or (value_in base octet) 0 * base ^ length octets + sum_in base octets

-- the number that octets write in a base, where all are digits of it and their sum is below 2^128
abbrev pub number_in : ℕ → List ℕ → Option ℕ
number_in base octets =
    if list_all (λ octet. is_some (value_in base octet)) octets then number_below (2 ^ 128) (sum_in base octets) else None

-- the key of a number, or of the text where there is none
abbrev pub key_by : Option ℕ → List ℕ → Key
key_by (Some number) id = Number number
key_by None id = Text id

-- the key of an id under a form
abbrev pub key_under : Form → List ℕ → Key
key_under Verbatim id = Text id
key_under Decimal id = key_by (number_in 10 id) id
key_under Hexadecimal id = key_by (number_in 16 id) id
