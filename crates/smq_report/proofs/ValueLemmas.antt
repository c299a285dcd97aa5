-- Error texts and the digits of networks are text.
use Rattle.std.proofs.Common.{◌≡◌, ◌<◌, ℕ, List, [], ◌∷◌, true, arith}
use Rattle.std.specs.List.{list_all}
use Rattle.std.specs.Char.{is_ascii_digit}
use Rattle.std.specs.Str.{IsAscii, IsUtf8}
use Rattle.std.proofs.lemmas.Bool.{and_parts}
use Rattle.std.proofs.lemmas.Bool.Decides.{nat_tests}
use Rattle.std.proofs.lemmas.Str.{IsUtf8-from_ascii}
use Rattle.std.proofs.lemmas.List.Elements.{All-weaker}
use Rattle.std.proofs.lemmas.Str.Ascii.{IsAscii-nil, IsAscii-cons, IsAscii-from_all}
use Rattle.smq_kit.specs.ErrorTexts.{is_error_octet, is_error_text}
use Rattle.smq_kit.specs.Numbers.{IsNetwork}

below_128 : (octet : ℕ) → is_error_octet octet ≡ true → octet < 128
below_128 octet h = grind (arith, nat_tests, h)

are_ascii : (octets : List ℕ) → list_all is_error_octet octets ≡ true → IsAscii octets
are_ascii [] h = IsAscii-nil
are_ascii (octet ∷ octets) h =
    let parts = and_parts _ _ h in
    IsAscii-cons octet octets (below_128 octet parts.0) (are_ascii octets parts.1)

-- an error text is text
pub error_texts_are_text : (octets : List ℕ) → is_error_text octets ≡ true → IsUtf8 octets
error_texts_are_text octets h =
    let octets_are : list_all is_error_octet octets ≡ true = grind (arith, nat_tests, h) in
    IsUtf8-from_ascii octets (are_ascii octets octets_are)

digit_below_128 : (octet : ℕ) → is_ascii_digit octet ≡ true → octet < 128
digit_below_128 octet h = grind (arith, nat_tests, h)

-- the digits of a network's code are text
pub networks_are_text : (octets : List ℕ) → IsNetwork octets → IsUtf8 octets
networks_are_text octets h =
    IsUtf8-from_ascii octets (IsAscii-from_all octets (All-weaker (λ octet. is_ascii_digit octet ≡ true) (λ octet. octet < 128)
    digit_below_128 octets h.digits))
