-- Optional parameters: tag, length and value, TLV (SMPP 3.4, section 5.3).
use Rattle.std.specs.Prelude.{◌≡◌, ◌==◌, ◌+◌, ◌<◌, ◌≤◌, ◌^◌, ◌⊎◌, ℕ, List, ◌++◌, length, take, drop, Option, option_map}
use Rattle.std.specs.Int.{w16, to_be_bytes, from_be_bytes}
use Rattle.std.specs.List.{AllByRecursion, flat_map, find}

-- a parameter; its length is that of its value
pub record Tlv : Type 0 where
  pub tag : ℕ
  pub value : List ℕ

-- tag and length have two octets each, the high one first, and the value follows
abbrev pub tlv_spelling : Tlv → List ℕ
tlv_spelling t = to_be_bytes w16 t.tag ++ (to_be_bytes w16 (length t.value) ++ t.value)

-- tag and length fit in 16 bits
pub record IsTlv (t : Tlv) : Type 0 where
  pub tag_fits : t.tag < 2 ^ 16
  pub length_fits : length t.value < 2 ^ 16

-- the length that the third and the fourth octet state
unfoldable pub stated_length : List ℕ → ℕ
stated_length octets = from_be_bytes w16 (take 2 (drop 2 octets))

-- no whole parameter stands at the front: fewer than four octets, or a value shorter than they state
abbrev pub BeginsWithNoTlv : List ℕ → Type 0
BeginsWithNoTlv octets =
    (length octets < 4) ⊎ ((4 ≤ length octets) × (length octets < 4 + stated_length octets))

-- The octets are these parameters, one after the other, and a rest that begins with none.
pub record AreParameters (octets : List ℕ) (tlvs : List Tlv) (rest : List ℕ) : Type 0 where
  pub parts : octets ≡ flat_map tlv_spelling tlvs ++ rest
  pub each : AllByRecursion IsTlv tlvs
  pub ends : BeginsWithNoTlv rest

-- the value of the first parameter with this tag
abbrev pub first_value : ℕ → List Tlv → Option (List ℕ)
first_value tag tlvs = option_map (λ t. t.value) (find (λ t. t.tag == tag) tlvs)

-- ---- the tags that are told from others (SMPP 3.4, section 5.3.2)

-- the id that the receipt's message had from its centre (5.3.2.12)
abbrev pub receipted_message_id_tag : ℕ
receipted_message_id_tag = 0x001e

-- a network type and its error code (5.3.2.31)
abbrev pub network_error_code_tag : ℕ
network_error_code_tag = 0x0423

-- the message where short_message has none (5.3.2.32)
abbrev pub message_payload_tag : ℕ
message_payload_tag = 0x0424

-- the state of the receipt's message (5.3.2.35)
abbrev pub message_state_tag : ℕ
message_state_tag = 0x0427
