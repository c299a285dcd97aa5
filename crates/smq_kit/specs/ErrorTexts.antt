-- Error texts of receipts.
use Rattle.std.specs.Prelude.{ℕ, nat_le, ◌==◌, ◌&&◌, ◌||◌, Bool, List, length}
use Rattle.std.specs.List.{list_all}
use Rattle.std.specs.Char.{is_ascii_alphanumeric}

-- an ASCII letter or digit, `-`, `_` or `.`
abbrev pub is_error_octet : ℕ → Bool
is_error_octet octet = is_ascii_alphanumeric octet || octet == 45 || octet == 95 || octet == 46

-- 1 to 16 such octets
abbrev pub is_error_text : List ℕ → Bool
is_error_text octets = nat_le 1 (length octets) && nat_le (length octets) 16 && list_all is_error_octet octets
