-- The fields and parameters of a body, read from left to right.
use Rattle.std.specs.Prelude.{ℕ, zero, suc, ◌==◌, nat_lt, if◌then◌else◌, List, [], ◌∷◌, length, take, drop, option_map, Option, Some, None}
use Rattle.std.specs.Int.{w16, from_be_bytes}
use Rattle.smq_pdu.specs.Fields.{Address, Mandatory, DataSmFields}
use Rattle.smq_pdu.specs.Parameters.{Tlv}

infixl 10 ◌>>=◌
-- the next step, where the one before it found something
abbrev pub ◌>>=◌ : {A B : Type 0} → Option A → (A → Option B) → Option B
None >>= f = None
(Some x) >>= f = f x

-- the first octet, and what follows
abbrev pub octet_at : List ℕ → Option (ℕ × List ℕ)
octet_at [] = None
octet_at (x ∷ rest) = Some (x, rest)

-- a text up to the first zero octet, and what follows that
unfoldable pub c_octet_at : List ℕ → Option (List ℕ × List ℕ)
c_octet_at [] = None
c_octet_at (x ∷ rest) = if x == 0 then Some ([], rest) else option_map (λ p. (x ∷ p.0, p.1)) (c_octet_at rest)

-- so many octets, and what follows
unfoldable pub octets_at : ℕ → List ℕ → Option (List ℕ × List ℕ)
octets_at n octets = if nat_lt (length octets) n then None else Some (take n octets, drop n octets)

-- a number of two octets, the high one first, and what follows
unfoldable pub number_at : List ℕ → Option (ℕ × List ℕ)
number_at octets = if nat_lt (length octets) 2 then None else Some (from_be_bytes w16 (take 2 octets), drop 2 octets)

-- ---- the mandatory fields

-- an address, and what follows
unfoldable pub address_at : List ℕ → Option (Address × List ℕ)
address_at octets = do
  ton ← octet_at octets
  npi ← octet_at ton.1
  text ← c_octet_at npi.1
  Some (record { ton = ton.0; npi = npi.0; text = text.0 }, text.1)

-- those of a submit_sm or deliver_sm in the standard's order, and what follows
unfoldable pub mandatory_at : List ℕ → Option (Mandatory × List ℕ)
mandatory_at octets = do
  service_type ← c_octet_at octets
  source ← address_at service_type.1
  destination ← address_at source.1
  esm_class ← octet_at destination.1
  protocol_id ← octet_at esm_class.1
  priority_flag ← octet_at protocol_id.1
  schedule ← c_octet_at priority_flag.1
  validity ← c_octet_at schedule.1
  registered_delivery ← octet_at validity.1
  replace_if_present_flag ← octet_at registered_delivery.1
  data_coding ← octet_at replace_if_present_flag.1
  sm_default_msg_id ← octet_at data_coding.1
  sm_length ← octet_at sm_default_msg_id.1
  short_message ← octets_at sm_length.0 sm_length.1
  Some (
    record {
      service_type = service_type.0;
      source = source.0;
      destination = destination.0;
      esm_class = esm_class.0;
      protocol_id = protocol_id.0;
      priority_flag = priority_flag.0;
      schedule_delivery_time = schedule.0;
      validity_period = validity.0;
      registered_delivery = registered_delivery.0;
      replace_if_present_flag = replace_if_present_flag.0;
      data_coding = data_coding.0;
      sm_default_msg_id = sm_default_msg_id.0;
      short_message = short_message.0;
    },
    short_message.1,
  )

-- those of a data_sm in the standard's order, and what follows
unfoldable pub data_sm_fields_at : List ℕ → Option (DataSmFields × List ℕ)
data_sm_fields_at octets = do
  service_type ← c_octet_at octets
  source ← address_at service_type.1
  destination ← address_at source.1
  esm_class ← octet_at destination.1
  registered_delivery ← octet_at esm_class.1
  data_coding ← octet_at registered_delivery.1
  Some (
    record {
      service_type = service_type.0;
      source = source.0;
      destination = destination.0;
      esm_class = esm_class.0;
      registered_delivery = registered_delivery.0;
      data_coding = data_coding.0;
    },
    data_coding.1,
  )

-- ---- the optional parameters

-- a whole parameter, and what follows
unfoldable pub tlv_at : List ℕ → Option (Tlv × List ℕ)
tlv_at octets = do
  tag ← number_at octets
  len ← number_at tag.1
  value ← octets_at len.0 len.1
  Some (record { tag = tag.0; value = value.0 }, value.1)

-- the parameters at the front of the octets, at most so many
unfoldable pub tlvs_within : ℕ → List ℕ → List Tlv
tlvs_within zero octets = []
tlvs_within (suc n) octets = elim (tlv_at octets) [ None ↦ [] | Some p ↦ p.0 ∷ tlvs_within n p.1 ]

-- what is left after them
unfoldable pub rest_within : ℕ → List ℕ → List ℕ
rest_within zero octets = octets
rest_within (suc n) octets = elim (tlv_at octets) [ None ↦ octets | Some p ↦ rest_within n p.1 ]

-- the parameters at the front of the octets
unfoldable pub tlvs_of : List ℕ → List Tlv
tlvs_of octets = tlvs_within (length octets) octets

-- what is left after all of them
unfoldable pub rest_of : List ℕ → List ℕ
rest_of octets = rest_within (length octets) octets
