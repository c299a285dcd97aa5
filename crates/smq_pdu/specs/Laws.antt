-- What the body of a PDU says, by the relations of its octets.
use Rattle.std.specs.Prelude.{◌≡◌, ◌≢◌, ◌⊎◌, ℕ, List, drop}
use Rattle.smq_pdu.specs.Commands.{submit_sm, submit_sm_resp, deliver_sm, data_sm, data_sm_resp}
use Rattle.smq_pdu.specs.Header.{header_at}
use Rattle.smq_pdu.specs.Fields.{Mandatory, DataSmFields}
use Rattle.smq_pdu.specs.Numbers.{HasNumber}
use Rattle.smq_pdu.specs.Sources.{source_in}
use Rattle.smq_pdu.specs.Parameters.{Tlv}
use Rattle.smq_pdu.specs.Bodies.{SubmitValue, DeliverValue, DataSmValue, BodyValue, IsBody, IsDataSmBody, IsMessageId, deliver_said, data_sm_said}
use Rattle.smq_pdu.specs.Pdu.{pdu_of}

-- the command_id of a PDU
abbrev pub command_at : List ℕ → ℕ
command_at octets = (header_at octets).command

-- the octets after its header
abbrev pub body_at : List ℕ → List ℕ
body_at octets = drop 16 octets

-- what its body says
abbrev pub said : List ℕ → BodyValue
said octets = (pdu_of octets).body

-- The PDU is a submit_sm whose body is some fields, parameters and a rest, and they say this.
pub record IsSubmit (octets : List ℕ) (submit : SubmitValue) : Type 0 where
  pub command : command_at octets ≡ submit_sm
  pub fields : Mandatory
  pub tlvs : List Tlv
  pub rest : List ℕ
  pub body : IsBody (body_at octets) fields tlvs rest
  pub registered_delivery : submit.registered_delivery ≡ fields.registered_delivery
  pub number : HasNumber fields.destination submit.number
  pub source_ton : submit.source_ton ≡ fields.source.ton
  pub source : submit.source ≡ source_in fields.source.text

-- The PDU is a deliver_sm whose body is some fields, parameters and a rest, and they say this.
pub record IsDeliver (octets : List ℕ) (deliver : DeliverValue) : Type 0 where
  pub command : command_at octets ≡ deliver_sm
  pub fields : Mandatory
  pub tlvs : List Tlv
  pub rest : List ℕ
  pub body : IsBody (body_at octets) fields tlvs rest
  pub value : deliver ≡ deliver_said fields tlvs

-- The PDU is a data_sm whose body is some fields, parameters and a rest, and they say this.
pub record IsDataSm (octets : List ℕ) (message : DataSmValue) : Type 0 where
  pub command : command_at octets ≡ data_sm
  pub fields : DataSmFields
  pub tlvs : List Tlv
  pub rest : List ℕ
  pub body : IsDataSmBody (body_at octets) fields tlvs rest
  pub number : HasNumber fields.destination message.number
  pub value : message ≡ data_sm_said fields message.number tlvs

-- The PDU is a submit_sm or deliver_sm whose body is no fields, parameters and rest.
pub record IsUndecodableMessage (octets : List ℕ) : Type 0 where
  pub command : (command_at octets ≡ submit_sm) ⊎ (command_at octets ≡ deliver_sm)
  pub none : (fields : Mandatory) (tlvs : List Tlv) (rest : List ℕ)
      → IsBody (body_at octets) fields tlvs rest → ⊥

-- The PDU is a data_sm whose body is no fields, parameters and rest.
pub record IsUndecodableDataSm (octets : List ℕ) : Type 0 where
  pub command : command_at octets ≡ data_sm
  pub none : (fields : DataSmFields) (tlvs : List Tlv) (rest : List ℕ)
      → IsDataSmBody (body_at octets) fields tlvs rest → ⊥

-- The PDU is a submit_sm, deliver_sm or data_sm whose body is none of its command.
abbrev pub IsUndecodable : List ℕ → Type 0
IsUndecodable octets = IsUndecodableMessage octets ⊎ IsUndecodableDataSm octets

-- the command gives a message id
abbrev pub GivesId : ℕ → Type 0
GivesId command = (command ≡ submit_sm_resp) ⊎ (command ≡ data_sm_resp)

-- The PDU is a submit_sm_resp or data_sm_resp with this id.
pub record IsSubmitResponse (octets id : List ℕ) : Type 0 where
  pub command : GivesId (command_at octets)
  pub of_body : IsMessageId (body_at octets) id

-- The PDU is a submit_sm_resp or data_sm_resp with no id.
pub record IsSubmitResponseWithoutId (octets : List ℕ) : Type 0 where
  pub command : GivesId (command_at octets)
  pub none : (id : List ℕ) → IsMessageId (body_at octets) id → ⊥

-- The PDU is none of submit_sm, deliver_sm, data_sm, submit_sm_resp and data_sm_resp.
pub record IsOther (octets : List ℕ) : Type 0 where
  pub no_submit : command_at octets ≢ submit_sm
  pub no_submit_resp : command_at octets ≢ submit_sm_resp
  pub no_deliver : command_at octets ≢ deliver_sm
  pub no_data_sm : command_at octets ≢ data_sm
  pub no_data_sm_resp : command_at octets ≢ data_sm_resp
