-- What a deliver_sm or data_sm says as a delivery receipt (SMPP 3.4, appendix B, and this project's lenient reading of it).
-- A data_sm stands here as a deliver_sm whose short_message is empty.
use Rattle.std.specs.Prelude.{ℕ, ◌==◌, ◌||◌, nat_le, ◌&&◌, if◌then◌else◌, Bool, bit_and, List, [], ◌∷◌, length, codes, Option, Some, None, is_some, unwrap_or, option_and_then, ℤ}
use Rattle.std.specs.Option.{option_or}
use Rattle.std.specs.List.{before_first}
use Rattle.smq_pdu.specs.Bodies.{DeliverValue}
use Rattle.smq_receipt.specs.Texts.{header_of, value_of}
use Rattle.smq_receipt.specs.States.{state_of_number, state_of_word}
use Rattle.smq_receipt.specs.Errors.{network_code_in, text_code_in}
use Rattle.smq_receipt.specs.Dates.{centre_delay_of}
use Rattle.smq_receipt.specs.declared.message_state.MessageState.{MessageState}
use Rattle.smq_kit.specs.declared.error_code.ErrorCode.{ErrorCode}
use Rattle.smq_kit.specs.declared.error_code.ErrorCode.TheVariants.{Unstated}
use Rattle.smq_receipt.specs.declared.reading.Reading.{Reading}
use Rattle.smq_receipt.specs.declared.reading.Reading.TheVariants as v

-- bits 5 to 2 of esm_class (SMPP 3.4, 5.2.12) say that the message is a delivery receipt
abbrev pub is_delivery_receipt : DeliverValue → Bool
is_delivery_receipt d = bit_and d.esm_class 0x3C == 0x04

-- the same bits say that it is an intermediate notification
abbrev pub is_interim : DeliverValue → Bool
is_interim d = bit_and d.esm_class 0x3C == 0x20

-- it is a receipt where esm_class says either, or receipted_message_id is there
abbrev pub is_receipt : DeliverValue → Bool
is_receipt d = is_delivery_receipt d || is_interim d || is_some d.receipted_message_id

-- the text: short_message, or where it has no octets (as in a data_sm) message_payload, or empty
unfoldable pub text_of : DeliverValue → List ℕ
text_of d = if length d.short_message == 0 then unwrap_or d.message_payload [] else d.short_message

-- an id of 1 to 64 octets
unfoldable pub usable_id : List ℕ → Option (List ℕ)
usable_id octets = if nat_le 1 (length octets) && nat_le (length octets) 64 then Some octets else None

-- the id in the octets of receipted_message_id, before the first zero or the end
unfoldable pub receipted_id : List ℕ → Option (List ℕ)
receipted_id octets = usable_id (before_first (λ octet. octet == 0) octets)

-- the state in the octets of message_state, where it is exactly one
unfoldable pub state_in : List ℕ → Option MessageState
state_in (number ∷ []) = state_of_number number
state_in _ = None

-- what a parameter says where it is usable, and else what the value of a name in the header part does
abbrev pub parameter_or_value : {A : Type 0} → (List ℕ → Option A) → Option (List ℕ) → (List ℕ → Option A)
    → Option (List ℕ) → Option A
parameter_or_value of_parameter parameter of_value value =
    option_or (option_and_then of_parameter parameter) (option_and_then of_value value)

-- the id: of receipted_message_id where usable, else of `id`
unfoldable pub id_of : DeliverValue → List ℕ → Option (List ℕ)
id_of d header =
    parameter_or_value receipted_id d.receipted_message_id usable_id (value_of (codes "id:") header)

-- the state: of message_state where usable, else of `stat`
unfoldable pub state_of : DeliverValue → List ℕ → Option MessageState
state_of d header =
    parameter_or_value state_in d.message_state state_of_word (value_of (codes "stat:") header)

-- the error: of network_error_code where usable, else of `err`, else unstated
unfoldable pub error_of : DeliverValue → List ℕ → ErrorCode
error_of d header =
    unwrap_or (parameter_or_value network_code_in d.network_error_code text_code_in (value_of (codes "err:") header))
    Unstated

-- a receipt without an id is told before one without a state
abbrev pub reading_with : Option (List ℕ) → Option MessageState → Bool → ErrorCode → Option ℤ → Reading
reading_with None state interim error delay = v.NoId
reading_with (Some id) None interim error delay = v.NoState
reading_with (Some id) (Some state) interim error delay =
    v.Receipt (record { id = id; state = state; interim = interim; error = error; centre_delay = delay })

-- what a receipt says, by its header part
unfoldable pub receipt_of : DeliverValue → List ℕ → Reading
receipt_of d header =
    reading_with (id_of d header) (state_of d header) (is_interim d) (error_of d header) (centre_delay_of header)

-- what a deliver_sm or data_sm says as a receipt
unfoldable pub reading_of : DeliverValue → Reading
reading_of d = if is_receipt d then receipt_of d (header_of (text_of d)) else v.NotReceipt
