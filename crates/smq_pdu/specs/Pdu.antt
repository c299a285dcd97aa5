-- What a PDU says (SMPP 3.4, sections 3 and 4).
use Rattle.std.specs.Prelude.{ℕ, ◌==◌, nat_le, ◌&&◌, ◌||◌, if◌then◌else◌, List, length, drop, Option, Some, None, take_while, not}
use Rattle.smq_pdu.specs.Commands.{submit_sm, submit_sm_resp, deliver_sm, data_sm, data_sm_resp}
use Rattle.smq_pdu.specs.Header.{Header, header_at}
use Rattle.smq_pdu.specs.Bodies.{BodyValue, SubmitBody, SubmitAnswerBody, DeliverBody, DataSmBody, OtherBody, UndecodableBody, submit_said, deliver_said, data_sm_said}
use Rattle.smq_pdu.specs.Numbers.{number_of}
use Rattle.smq_pdu.specs.Readers.{mandatory_at, data_sm_fields_at, tlvs_of}

-- a PDU: its header and what its body says
pub record PduValue : Type 0 where
  pub header : Header
  pub body : BodyValue

-- the octets before the first zero, or all
abbrev pub before_zero : List ℕ → List ℕ
before_zero octets = take_while (λ x. not (x == 0)) octets

-- the message id of a submit_sm_resp or data_sm_resp, where it has 1 to 64 octets
unfoldable pub id_of : List ℕ → Option (List ℕ)
id_of octets =
    let id = before_zero octets in
    if nat_le 1 (length id) && nat_le (length id) 64 then Some id else None

-- the body of a submit_sm
unfoldable pub submit_of : List ℕ → BodyValue
submit_of octets =
    elim (mandatory_at octets) [ None ↦ UndecodableBody | Some p ↦ SubmitBody (submit_said p.0) ]

-- the body of a deliver_sm
unfoldable pub deliver_of : List ℕ → BodyValue
deliver_of octets =
    elim (mandatory_at octets) [ None ↦ UndecodableBody | Some p ↦ DeliverBody (deliver_said p.0 (tlvs_of p.1)) ]

-- the body of a data_sm
unfoldable pub data_sm_of : List ℕ → BodyValue
data_sm_of octets =
    elim (data_sm_fields_at octets) [
      | None ↦ UndecodableBody
      | Some p ↦ DataSmBody (data_sm_said p.0 (number_of p.0.destination) (tlvs_of p.1))
    ]

-- the body of a command
unfoldable pub body_of : ℕ → List ℕ → BodyValue
body_of command octets =
    if command == submit_sm then submit_of octets
    else (if command == submit_sm_resp || command == data_sm_resp then SubmitAnswerBody (id_of octets)
    else (if command == deliver_sm then deliver_of octets
    else (if command == data_sm then data_sm_of octets
    else OtherBody)))

-- what the octets of a frame say
abbrev pub pdu_of : List ℕ → PduValue
pdu_of octets =
    record { header = header_at octets; body = body_of (header_at octets).command (drop 16 octets) }
