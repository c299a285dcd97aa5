-- What the body of a PDU says (SMPP 3.4, sections 4.4, 4.6 and 4.7).
use Rattle.std.specs.Prelude.{◌≡◌, ◌≤◌, ◌⊎◌, ℕ, List, [], ◌∷◌, ◌++◌, length, Option}
use Rattle.std.specs.List.{AllByRecursion, flat_map}
use Rattle.smq_pdu.specs.Fields.{Mandatory, DataSmFields, spelling, data_sm_spelling, IsText, AreTexts, AreDataSmTexts}
use Rattle.smq_pdu.specs.Numbers.{number_of}
use Rattle.smq_pdu.specs.Sources.{source_in}
use Rattle.smq_pdu.specs.Parameters.{Tlv, tlv_spelling, IsTlv, BeginsWithNoTlv, first_value, receipted_message_id_tag, network_error_code_tag, message_payload_tag, message_state_tag}

-- what is read of a submit_sm
pub record SubmitValue : Type 0 where
  pub registered_delivery : ℕ
  -- the number of destination_addr, where it is one
  pub number : Option (List ℕ)
  -- the type and the text of the source address, where this has 1 to 20 octets
  pub source_ton : ℕ
  pub source : Option (List ℕ)

-- what is read of a deliver_sm: of each optional parameter the first value, usable or not
pub record DeliverValue : Type 0 where
  pub esm_class : ℕ
  pub short_message : List ℕ
  pub receipted_message_id : Option (List ℕ)
  pub network_error_code : Option (List ℕ)
  pub message_payload : Option (List ℕ)
  pub message_state : Option (List ℕ)

-- what is read of a data_sm: as of a submit_sm, and as of a deliver_sm without a short_message
pub record DataSmValue : Type 0 where
  pub esm_class : ℕ
  pub registered_delivery : ℕ
  -- the number of destination_addr, where it is one
  pub number : Option (List ℕ)
  -- the type and the text of the source address, where this has 1 to 20 octets
  pub source_ton : ℕ
  pub source : Option (List ℕ)
  pub receipted_message_id : Option (List ℕ)
  pub network_error_code : Option (List ℕ)
  pub message_payload : Option (List ℕ)
  pub message_state : Option (List ℕ)

-- what a data_sm says as a submit_sm does
abbrev pub submit_of_data_sm : DataSmValue → SubmitValue
submit_of_data_sm d = record {
  registered_delivery = d.registered_delivery;
  number = d.number;
  source_ton = d.source_ton;
  source = d.source;
}

-- what a data_sm says as a deliver_sm does, whose short_message is empty
abbrev pub deliver_of_data_sm : DataSmValue → DeliverValue
deliver_of_data_sm d = record {
  esm_class = d.esm_class;
  short_message = [];
  receipted_message_id = d.receipted_message_id;
  network_error_code = d.network_error_code;
  message_payload = d.message_payload;
  message_state = d.message_state;
}

-- what a body says, by its command
pub data BodyValue : Type 0 where
  SubmitBody : (submit : SubmitValue) → BodyValue
  -- a submit_sm_resp or data_sm_resp, with its message id where it has one
  SubmitAnswerBody : (id : Option (List ℕ)) → BodyValue
  DeliverBody : (deliver : DeliverValue) → BodyValue
  DataSmBody : (message : DataSmValue) → BodyValue
  -- every other command
  OtherBody : BodyValue
  -- a submit_sm, deliver_sm or data_sm whose mandatory fields don't fit
  UndecodableBody : BodyValue

-- ---- submit_sm and deliver_sm

-- The body is the mandatory fields, the parameters and a rest that begins with no whole parameter, one after the other.
pub record IsBody (body : List ℕ) (fields : Mandatory) (tlvs : List Tlv) (rest : List ℕ) : Type 0 where
  pub parts : body ≡ spelling fields ++ (flat_map tlv_spelling tlvs ++ rest)
  pub texts : AreTexts fields
  pub each : AllByRecursion IsTlv tlvs
  pub ends : BeginsWithNoTlv rest

-- what is read of a submit_sm with these fields
abbrev pub submit_said : Mandatory → SubmitValue
submit_said fields = record {
  registered_delivery = fields.registered_delivery;
  number = number_of fields.destination;
  source_ton = fields.source.ton;
  source = source_in fields.source.text;
}

-- what is read of a deliver_sm with these fields and parameters
abbrev pub deliver_said : Mandatory → List Tlv → DeliverValue
deliver_said fields tlvs = record {
  esm_class = fields.esm_class;
  short_message = fields.short_message;
  receipted_message_id = first_value receipted_message_id_tag tlvs;
  network_error_code = first_value network_error_code_tag tlvs;
  message_payload = first_value message_payload_tag tlvs;
  message_state = first_value message_state_tag tlvs;
}

-- ---- data_sm

-- The body is the mandatory fields of a data_sm, the parameters and a rest that begins with no whole parameter.
pub record IsDataSmBody (body : List ℕ) (fields : DataSmFields) (tlvs : List Tlv) (rest : List ℕ) : Type 0 where
  pub parts : body ≡ data_sm_spelling fields ++ (flat_map tlv_spelling tlvs ++ rest)
  pub texts : AreDataSmTexts fields
  pub each : AllByRecursion IsTlv tlvs
  pub ends : BeginsWithNoTlv rest

-- what is read of a data_sm with these fields, this number, where its destination has one, and these parameters
abbrev pub data_sm_said : DataSmFields → Option (List ℕ) → List Tlv → DataSmValue
data_sm_said fields number tlvs = record {
  esm_class = fields.esm_class;
  registered_delivery = fields.registered_delivery;
  number = number;
  source_ton = fields.source.ton;
  source = source_in fields.source.text;
  receipted_message_id = first_value receipted_message_id_tag tlvs;
  network_error_code = first_value network_error_code_tag tlvs;
  message_payload = first_value message_payload_tag tlvs;
  message_state = first_value message_state_tag tlvs;
}

-- ---- submit_sm_resp and data_sm_resp

-- The text is the octets up to the first zero, or all where there is none.
pub record IsFirstText (body text : List ℕ) : Type 0 where
  pub parts : ((rest : List ℕ) × (body ≡ text ++ 0 ∷ rest)) ⊎ (body ≡ text)
  pub no_zero : IsText text

-- The id is the first text of the body, and has 1 to 64 octets.
pub record IsMessageId (body id : List ℕ) : Type 0 where
  pub first : IsFirstText body id
  pub not_empty : 1 ≤ length id
  pub in_range : length id ≤ 64
