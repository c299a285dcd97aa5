-- The mandatory fields read in three parts, as the code does.
use Rattle.std.specs.Prelude.{ℕ, List, Option, Some}
use Rattle.smq_pdu.specs.Fields.{Address, Mandatory}
use Rattle.smq_pdu.specs.Readers.{◌>>=◌, octet_at, c_octet_at, octets_at, address_at}

-- the mandatory fields up to the addresses
pub record Front : Type 0 where
  pub service_type : List ℕ
  pub source : Address
  pub destination : Address

-- these fields, and what follows
unfoldable pub front_at : List ℕ → Option (Front × List ℕ)
front_at octets = do
  service_type ← c_octet_at octets
  source ← address_at service_type.1
  destination ← address_at source.1
  Some (record { service_type = service_type.0; source = source.0; destination = destination.0 }, destination.1)

-- the mandatory fields from esm_class to the times
pub record Middle : Type 0 where
  pub esm_class : ℕ
  pub protocol_id : ℕ
  pub priority_flag : ℕ
  pub schedule_delivery_time : List ℕ
  pub validity_period : List ℕ

-- these fields, and what follows
unfoldable pub middle_at : List ℕ → Option (Middle × List ℕ)
middle_at octets = do
  esm_class ← octet_at octets
  protocol_id ← octet_at esm_class.1
  priority_flag ← octet_at protocol_id.1
  schedule ← c_octet_at priority_flag.1
  validity ← c_octet_at schedule.1
  Some (
    record {
      esm_class = esm_class.0;
      protocol_id = protocol_id.0;
      priority_flag = priority_flag.0;
      schedule_delivery_time = schedule.0;
      validity_period = validity.0;
    },
    validity.1,
  )

-- the mandatory fields from registered_delivery to the message
pub record Back : Type 0 where
  pub registered_delivery : ℕ
  pub replace_if_present_flag : ℕ
  pub data_coding : ℕ
  pub sm_default_msg_id : ℕ
  pub short_message : List ℕ

-- these fields, and what follows
unfoldable pub back_at : List ℕ → Option (Back × List ℕ)
back_at octets = do
  registered_delivery ← octet_at octets
  replace_if_present_flag ← octet_at registered_delivery.1
  data_coding ← octet_at replace_if_present_flag.1
  sm_default_msg_id ← octet_at data_coding.1
  sm_length ← octet_at sm_default_msg_id.1
  short_message ← octets_at sm_length.0 sm_length.1
  Some (
    record {
      registered_delivery = registered_delivery.0;
      replace_if_present_flag = replace_if_present_flag.0;
      data_coding = data_coding.0;
      sm_default_msg_id = sm_default_msg_id.0;
      short_message = short_message.0;
    },
    short_message.1,
  )

-- the three parts together
abbrev pub mandatory_of : Front → Middle → Back → Mandatory
mandatory_of f m b = record {
  service_type = f.service_type;
  source = f.source;
  destination = f.destination;
  esm_class = m.esm_class;
  protocol_id = m.protocol_id;
  priority_flag = m.priority_flag;
  schedule_delivery_time = m.schedule_delivery_time;
  validity_period = m.validity_period;
  registered_delivery = b.registered_delivery;
  replace_if_present_flag = b.replace_if_present_flag;
  data_coding = b.data_coding;
  sm_default_msg_id = b.sm_default_msg_id;
  short_message = b.short_message;
}

-- all the mandatory fields, part by part, and what follows
unfoldable pub mandatory_by_parts : List ℕ → Option (Mandatory × List ℕ)
mandatory_by_parts octets = do
  front ← front_at octets
  middle ← middle_at front.1
  back ← back_at middle.1
  Some (mandatory_of front.0 middle.0 back.0, back.1)
