-- The mandatory fields of submit_sm and deliver_sm, and those of data_sm (SMPP 3.4, sections 4.4.1, 4.6.1 and 4.7.1).
use Rattle.std.specs.Prelude.{◌≡◌, ◌≢◌, ℕ, List, [], ◌∷◌, ◌++◌, length}
use Rattle.std.specs.List.{AllByRecursion}

-- a type of number, a numbering plan and an address
pub record Address : Type 0 where
  pub ton : ℕ
  pub npi : ℕ
  pub text : List ℕ

-- those of submit_sm and deliver_sm in the standard's order; sm_length is the length of short_message
pub record Mandatory : Type 0 where
  pub service_type : List ℕ
  pub source : Address
  pub destination : Address
  pub esm_class : ℕ
  pub protocol_id : ℕ
  pub priority_flag : ℕ
  pub schedule_delivery_time : List ℕ
  pub validity_period : List ℕ
  pub registered_delivery : ℕ
  pub replace_if_present_flag : ℕ
  pub data_coding : ℕ
  pub sm_default_msg_id : ℕ
  pub short_message : List ℕ

-- those of data_sm in the standard's order; it has no short_message
pub record DataSmFields : Type 0 where
  pub service_type : List ℕ
  pub source : Address
  pub destination : Address
  pub esm_class : ℕ
  pub registered_delivery : ℕ
  pub data_coding : ℕ

-- ---- how fields are spelled

-- octets up to and with one zero octet
abbrev pub c_octet : List ℕ → List ℕ
c_octet text = text ++ 0 ∷ []

-- an address is spelled type, plan, text
abbrev pub address : Address → List ℕ
address a = a.ton ∷ a.npi ∷ c_octet a.text

-- the fields, one after the other
abbrev pub spelling : Mandatory → List ℕ
spelling m =
    c_octet m.service_type ++ (address m.source ++ (address m.destination
    ++ (m.esm_class ∷ m.protocol_id ∷ m.priority_flag
    ∷ (c_octet m.schedule_delivery_time ++ (c_octet m.validity_period
    ++ (m.registered_delivery ∷ m.replace_if_present_flag ∷ m.data_coding ∷ m.sm_default_msg_id
    ∷ length m.short_message ∷ m.short_message))))))

-- the fields of a data_sm, one after the other
abbrev pub data_sm_spelling : DataSmFields → List ℕ
data_sm_spelling m =
    c_octet m.service_type ++ (address m.source ++ (address m.destination
    ++ (m.esm_class ∷ m.registered_delivery ∷ m.data_coding ∷ [])))

-- no zero octet stands in the text
abbrev pub IsText : List ℕ → Type 0
IsText text = AllByRecursion (λ octet. octet ≢ 0) text

-- the C-octet fields are texts
pub record AreTexts (m : Mandatory) : Type 0 where
  pub service_type : IsText m.service_type
  pub source : IsText m.source.text
  pub destination : IsText m.destination.text
  pub schedule_delivery_time : IsText m.schedule_delivery_time
  pub validity_period : IsText m.validity_period

-- a body begins with these fields, and this follows
pub record BeginsWith (body : List ℕ) (m : Mandatory) (rest : List ℕ) : Type 0 where
  pub parts : body ≡ spelling m ++ rest
  pub texts : AreTexts m

-- the C-octet fields of a data_sm are texts
pub record AreDataSmTexts (m : DataSmFields) : Type 0 where
  pub service_type : IsText m.service_type
  pub source : IsText m.source.text
  pub destination : IsText m.destination.text

-- a body begins with these fields of a data_sm, and this follows
pub record BeginsWithDataSm (body : List ℕ) (m : DataSmFields) (rest : List ℕ) : Type 0 where
  pub parts : body ≡ data_sm_spelling m ++ rest
  pub texts : AreDataSmTexts m
