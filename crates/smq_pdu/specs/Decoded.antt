-- A PDU without where it lies in memory.
use Rattle.std.specs.Prelude.{Option, ℕ, List}
use Rattle.std.specs.Option.{option_map}
use denote.Bor.{Bor}
use Rattle.smq_pdu.specs.Bodies.{BodyValue, SubmitValue, DeliverValue, DataSmValue, SubmitBody, SubmitAnswerBody, DeliverBody, DataSmBody, OtherBody, UndecodableBody}
use Rattle.smq_pdu.specs.Pdu.{PduValue}
use Rattle.smq_pdu.specs.declared.pdu.Pdu.{Pdu}
use Rattle.smq_pdu.specs.declared.body.Body.{Body}
use Rattle.smq_pdu.specs.declared.body.Submit.{Submit}
use Rattle.smq_pdu.specs.declared.body.Deliver.{Deliver}
use Rattle.smq_pdu.specs.declared.data_sm.DataSm.{DataSm}
use Rattle.smq_pdu.specs.declared.body.Body.TheVariants as v

-- the octets of a value, where there is one
abbrev pub seen : Option (Bor (List ℕ)) → Option (List ℕ)
seen value = option_map (λ v. v.now) value

-- what a submit_sm says
abbrev pub submit_view : Submit → SubmitValue
submit_view s = record {
  registered_delivery = s.registered_delivery;
  number = s.number;
  source_ton = s.source_ton;
  source = s.source;
}

-- what a deliver_sm says
abbrev pub deliver_view : Deliver → DeliverValue
deliver_view d = record {
  esm_class = d.esm_class;
  short_message = d.short_message.now;
  receipted_message_id = seen d.receipted_message_id;
  network_error_code = seen d.network_error_code;
  message_payload = seen d.message_payload;
  message_state = seen d.message_state;
}

-- what a data_sm says
abbrev pub data_sm_view : DataSm → DataSmValue
data_sm_view d = record {
  esm_class = d.esm_class;
  registered_delivery = d.registered_delivery;
  number = d.number;
  source_ton = d.source_ton;
  source = d.source;
  receipted_message_id = seen d.receipted_message_id;
  network_error_code = seen d.network_error_code;
  message_payload = seen d.message_payload;
  message_state = seen d.message_state;
}

-- what a body says
abbrev pub body_view : Body → BodyValue
body_view (v.Submit s) = SubmitBody (submit_view s)
body_view (v.SubmitAnswer a) = SubmitAnswerBody a.message_id
body_view (v.Deliver d) = DeliverBody (deliver_view d)
body_view (v.DataSm d) = DataSmBody (data_sm_view d)
body_view v.Other = OtherBody
body_view v.Undecodable = UndecodableBody

-- what a PDU says
abbrev pub pdu_view : Pdu → PduValue
pdu_view p = record {
  header = record { command = p.command; status = p.status; seq = p.seq };
  body = body_view p.body;
}
