-- Fields and parameters without where they lie in memory; a seen one stands beside what follows it.
use Rattle.std.specs.Prelude.{ℕ, List}
use denote.Bor.{Bor}
use Rattle.smq_pdu.specs.Fields as f
use Rattle.smq_pdu.specs.within.Parts as r
use Rattle.smq_pdu.specs.Parameters as parameters
use Rattle.smq_pdu.specs.declared.fields.Address.{Address}
use Rattle.smq_pdu.specs.declared.fields.Front.{Front}
use Rattle.smq_pdu.specs.declared.fields.Middle.{Middle}
use Rattle.smq_pdu.specs.declared.fields.Back.{Back}
use Rattle.smq_pdu.specs.declared.fields.Mandatory.{Mandatory}
use Rattle.smq_pdu.specs.declared.data_sm.DataSmFields.{DataSmFields}
use Rattle.smq_pdu.specs.declared.fields.Tlv.{Tlv}

-- a number, and what follows
abbrev pub seen_number : ℕ × Bor (List ℕ) → ℕ × List ℕ
seen_number p = (p.0, p.1.now)

-- octets, and what follows
abbrev pub seen_octets : Bor (List ℕ) × Bor (List ℕ) → List ℕ × List ℕ
seen_octets p = (p.0.now, p.1.now)

-- an address
abbrev pub address_view : Address → f.Address
address_view a = record { ton = a.ton; npi = a.npi; text = a.text.now }

-- an address, and what follows
abbrev pub seen_address : Address × Bor (List ℕ) → f.Address × List ℕ
seen_address p = (address_view p.0, p.1.now)

-- the fields up to the addresses
abbrev pub front_view : Front → r.Front
front_view v = record { service_type = v.service_type.now; source = address_view v.source; destination = address_view v.destination }

-- these, and what follows
abbrev pub seen_front : Front × Bor (List ℕ) → r.Front × List ℕ
seen_front p = (front_view p.0, p.1.now)

-- the fields from esm_class to the times
abbrev pub middle_view : Middle → r.Middle
middle_view v = record {
  esm_class = v.esm_class;
  protocol_id = v.protocol_id;
  priority_flag = v.priority_flag;
  schedule_delivery_time = v.schedule_delivery_time.now;
  validity_period = v.validity_period.now;
}

-- these, and what follows
abbrev pub seen_middle : Middle × Bor (List ℕ) → r.Middle × List ℕ
seen_middle p = (middle_view p.0, p.1.now)

-- the fields from registered_delivery to the message
abbrev pub back_view : Back → r.Back
back_view v = record {
  registered_delivery = v.registered_delivery;
  replace_if_present_flag = v.replace_if_present_flag;
  data_coding = v.data_coding;
  sm_default_msg_id = v.sm_default_msg_id;
  short_message = v.short_message.now;
}

-- these, and what follows
abbrev pub seen_back : Back × Bor (List ℕ) → r.Back × List ℕ
seen_back p = (back_view p.0, p.1.now)

-- all the mandatory fields
abbrev pub mandatory_view : Mandatory → f.Mandatory
mandatory_view v = r.mandatory_of (front_view v.front) (middle_view v.middle) (back_view v.back)

-- these, and what follows
abbrev pub seen_mandatory : Mandatory × Bor (List ℕ) → f.Mandatory × List ℕ
seen_mandatory p = (mandatory_view p.0, p.1.now)

-- the mandatory fields of a data_sm
abbrev pub data_sm_fields_view : DataSmFields → f.DataSmFields
data_sm_fields_view v = record {
  service_type = v.service_type.now;
  source = address_view v.source;
  destination = address_view v.destination;
  esm_class = v.esm_class;
  registered_delivery = v.registered_delivery;
  data_coding = v.data_coding;
}

-- these, and what follows
abbrev pub seen_data_sm_fields : DataSmFields × Bor (List ℕ) → f.DataSmFields × List ℕ
seen_data_sm_fields p = (data_sm_fields_view p.0, p.1.now)

-- a parameter
abbrev pub tlv_view : Tlv → parameters.Tlv
tlv_view t = record { tag = t.tag; value = t.value.now }

-- a parameter, and what follows
abbrev pub seen_tlv : Tlv × Bor (List ℕ) → parameters.Tlv × List ℕ
seen_tlv p = (tlv_view p.0, p.1.now)
