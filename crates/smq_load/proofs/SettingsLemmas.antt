-- The rows that octets say as settings, by the steps in which they are read.
use Rattle.std.proofs.Common.{◌≡◌, ◌≤◌, ℕ, List, length, Bool, true, false, cond, Some, None, refl, arith}
use Rattle.std.proofs.lemmas.Bool.Decides.{nat_tests}
use Rattle.std.proofs.lemmas.Str.{IsUtf8-from_is_utf8, is_utf8-from_IsUtf8}
use Rattle.std.specs.Prelude.{◌&&◌, nat_le, option_and_then}
use Rattle.std.specs.Str.{IsUtf8, is_utf8}
use Rattle.toml.specs.Data.{Members}
use Rattle.toml.specs.Parse.{parse_document}
use Rattle.smq_load.specs.Settings.{rows_in, settings_of}

-- octets that are no UTF-8 say none
pub settings_of-no_text : (octets : List ℕ) → (IsUtf8 octets → ⊥) → settings_of octets ≡ None
settings_of-no_text octets h = by_test (is_utf8 octets) refl
  where
    by_test : (b : Bool) → is_utf8 octets ≡ b
        → cond (nat_le (length octets) 1048576 && b) (option_and_then rows_in (parse_document octets)) None ≡ None
    by_test true e = absurd (h (IsUtf8-from_is_utf8 octets e))
    by_test false e = by_length (nat_le (length octets) 1048576)
      where
        by_length : (b : Bool) → cond (b && false) (option_and_then rows_in (parse_document octets)) None ≡ None
        by_length true = refl
        by_length false = refl

-- a text that is short enough says what its document does
pub settings_of-text : (octets : List ℕ) → length octets ≤ 1048576 → IsUtf8 octets
    → settings_of octets ≡ option_and_then rows_in (parse_document octets)
settings_of-text octets low text =
    let short : nat_le (length octets) 1048576 ≡ true = grind (arith, nat_tests) in
    rw (short, is_utf8-from_IsUtf8 octets text) refl

-- a document says what its members do
pub settings_of-document : (octets text : List ℕ) (document : Members) → length octets ≤ 1048576 → (text ≡ octets) × IsUtf8 octets
    → parse_document text ≡ Some document
    → settings_of octets ≡ rows_in document
settings_of-document octets text document low is parsed = rw (settings_of-text octets low is.1, ← is.0, parsed) refl
