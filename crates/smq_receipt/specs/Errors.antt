-- Error codes of receipts (SMPP 3.4, 5.3.2.31 and appendix B).
use Rattle.std.specs.Prelude.{ℕ, ◌+◌, ◌*◌, if◌then◌else◌, List, [], ◌∷◌, Option, Some, None}
use Rattle.smq_kit.specs.ErrorTexts.{is_error_text}
use Rattle.smq_kit.specs.declared.error_code.ErrorCode.{ErrorCode}
use Rattle.smq_kit.specs.declared.error_code.ErrorCode.TheVariants.{Network, Text}

-- the code in the octets of network_error_code: exactly a network type and a code of two octets
unfoldable pub network_code_in : List ℕ → Option ErrorCode
network_code_in (kind ∷ high ∷ low ∷ []) = Some (Network kind (256 * high + low))
network_code_in _ = None

-- the code in the value of `err`, where it is an error text
unfoldable pub text_code_in : List ℕ → Option ErrorCode
text_code_in octets = if is_error_text octets then Some (Text octets) else None
