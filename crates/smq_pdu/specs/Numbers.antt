-- The number that an address names (SMPP 3.4, sections 5.2.5 and 5.2.9; E.164, section 6).
use Rattle.std.specs.Prelude.{◌≡◌, ◌⊎◌, ℕ, List, [], ◌∷◌, length, Option, Some, None, ◌==◌, nat_le, ◌&&◌, if◌then◌else◌}
use Rattle.std.specs.List.{list_all}
use Rattle.std.specs.Char.{is_ascii_digit}
use Rattle.smq_kit.specs.Numbers.{IsDigits}
use Rattle.smq_pdu.specs.Fields.{Address}

-- the type of number that says nothing of it (5.2.5)
abbrev pub unknown : ℕ
unknown = 0

-- the type of an international number (5.2.5)
abbrev pub international : ℕ
international = 1

-- the octet of `+`, which may stand before an international number
abbrev pub plus : ℕ
plus = 0x2b

-- The address is of unknown or international type, and its text is the number, or `+` and the number.
pub record IsNumberOf (address : Address) (number : List ℕ) : Type 0 where
  pub ton : (address.ton ≡ unknown) ⊎ (address.ton ≡ international)
  pub text : (address.text ≡ number) ⊎ (address.text ≡ plus ∷ number)
  pub digits : IsDigits number

-- The address names this number, or none.
abbrev pub HasNumber : Address → Option (List ℕ) → Type 0
HasNumber address (Some number) = IsNumberOf address number
HasNumber address None = (number : List ℕ) → IsNumberOf address number → ⊥

-- ---- how it is found

-- the octets without one leading `+`
abbrev pub without_plus : List ℕ → List ℕ
without_plus [] = []
without_plus (x ∷ rest) = if x == plus then rest else x ∷ rest

-- the digits, where these are 1 to 15 decimal digits
unfoldable pub digits_of : List ℕ → Option (List ℕ)
digits_of text =
    if nat_le 1 (length text) && (nat_le (length text) 15 && list_all is_ascii_digit text) then Some text else None

-- the number that an address names
unfoldable pub number_of : Address → Option (List ℕ)
number_of address =
    if nat_le address.ton international then digits_of (without_plus address.text) else None
