-- data_sm and data_sm_resp of which it is known what they say.
use Rattle.std.specs.Prelude.{ℕ, List, [], ◌∷◌, codes, Some, None}
use Rattle.smq_pdu.specs.Bodies.{SubmitValue, DeliverValue, DataSmValue, SubmitAnswerBody, DataSmBody, UndecodableBody}
use Rattle.smq_pdu.specs.Pdu.{PduValue}

-- a data_sm from 1000 to 447700900123 that asks for a receipt
abbrev pub data_sm_octets : List ℕ
data_sm_octets =
    0x00 ∷ 0x00 ∷ 0x00 ∷ 0x2a ∷ 0x00 ∷ 0x00 ∷ 0x01 ∷ 0x03 ∷ 0x00 ∷ 0x00 ∷ 0x00 ∷ 0x00 ∷ 0x00 ∷ 0x00 ∷ 0x00 ∷ 0x01 ∷
    0x00 ∷ 0x00 ∷ 0x00 ∷ 0x31 ∷ 0x30 ∷ 0x30 ∷ 0x30 ∷ 0x00 ∷ 0x01 ∷ 0x01 ∷ 0x34 ∷ 0x34 ∷ 0x37 ∷ 0x37 ∷ 0x30 ∷ 0x30 ∷
    0x39 ∷ 0x30 ∷ 0x30 ∷ 0x31 ∷ 0x32 ∷ 0x33 ∷ 0x00 ∷ 0x00 ∷ 0x01 ∷ 0x00 ∷ []

-- what these octets say
abbrev pub data_sm_pdu : PduValue
data_sm_pdu = record {
  header = record { command = 0x0103; status = 0; seq = 1 };
  body = DataSmBody (record {
    esm_class = 0;
    registered_delivery = 1;
    number = Some (codes "447700900123");
    source_ton = 0;
    source = Some (codes "1000");
    receipted_message_id = None;
    network_error_code = None;
    message_payload = None;
    message_state = None;
  });
}

-- the response to it, with the id "1"
abbrev pub data_sm_resp_octets : List ℕ
data_sm_resp_octets =
    0x00 ∷ 0x00 ∷ 0x00 ∷ 0x12 ∷ 0x80 ∷ 0x00 ∷ 0x01 ∷ 0x03 ∷ 0x00 ∷ 0x00 ∷ 0x00 ∷ 0x00 ∷ 0x00 ∷ 0x00 ∷ 0x00 ∷ 0x01 ∷
    0x31 ∷ 0x00 ∷ []

-- what these octets say
abbrev pub data_sm_resp_pdu : PduValue
data_sm_resp_pdu = record {
  header = record { command = 0x8000_0103; status = 0; seq = 1 };
  body = SubmitAnswerBody (Some (codes "1"));
}

-- a delivery receipt, whose text is message_payload
abbrev pub data_sm_receipt_octets : List ℕ
data_sm_receipt_octets =
    0x00 ∷ 0x00 ∷ 0x00 ∷ 0x2f ∷ 0x00 ∷ 0x00 ∷ 0x01 ∷ 0x03 ∷ 0x00 ∷ 0x00 ∷ 0x00 ∷ 0x00 ∷ 0x00 ∷ 0x00 ∷ 0x00 ∷ 0x01 ∷
    0x00 ∷ 0x00 ∷ 0x00 ∷ 0x00 ∷ 0x00 ∷ 0x00 ∷ 0x00 ∷ 0x04 ∷ 0x00 ∷ 0x00 ∷ 0x04 ∷ 0x24 ∷ 0x00 ∷ 0x11 ∷ 0x69 ∷ 0x64 ∷
    0x3a ∷ 0x31 ∷ 0x20 ∷ 0x73 ∷ 0x74 ∷ 0x61 ∷ 0x74 ∷ 0x3a ∷ 0x44 ∷ 0x45 ∷ 0x4c ∷ 0x49 ∷ 0x56 ∷ 0x52 ∷ 0x44 ∷ []

-- what its body says
abbrev pub data_sm_receipt : DataSmValue
data_sm_receipt = record {
  esm_class = 4;
  registered_delivery = 0;
  number = None;
  source_ton = 0;
  source = None;
  receipted_message_id = None;
  network_error_code = None;
  message_payload = Some (codes "id:1 stat:DELIVRD");
  message_state = None;
}

-- what these octets say
abbrev pub data_sm_receipt_pdu : PduValue
data_sm_receipt_pdu = record {
  header = record { command = 0x0103; status = 0; seq = 1 };
  body = DataSmBody data_sm_receipt;
}

-- a data_sm that ends before dest_addr_ton
abbrev pub cut_data_sm_octets : List ℕ
cut_data_sm_octets =
    0x00 ∷ 0x00 ∷ 0x00 ∷ 0x14 ∷ 0x00 ∷ 0x00 ∷ 0x01 ∷ 0x03 ∷ 0x00 ∷ 0x00 ∷ 0x00 ∷ 0x00 ∷ 0x00 ∷ 0x00 ∷ 0x00 ∷ 0x01 ∷
    0x00 ∷ 0x00 ∷ 0x00 ∷ 0x00 ∷ []

-- what these octets say
abbrev pub cut_data_sm_pdu : PduValue
cut_data_sm_pdu = record { header = record { command = 0x0103; status = 0; seq = 1 }; body = UndecodableBody }

-- a data_sm of which each field is another: of service_type "sms", from 41 to +42, with data_coding 8, each of the four
-- parameters that are read, and a second message_payload
abbrev pub full_data_sm_octets : List ℕ
full_data_sm_octets =
    0x00 ∷ 0x00 ∷ 0x00 ∷ 0x41 ∷ 0x00 ∷ 0x00 ∷ 0x01 ∷ 0x03 ∷ 0x00 ∷ 0x00 ∷ 0x00 ∷ 0x02 ∷ 0x00 ∷ 0x00 ∷ 0x00 ∷ 0x03 ∷
    0x73 ∷ 0x6d ∷ 0x73 ∷ 0x00 ∷ 0x02 ∷ 0x01 ∷ 0x34 ∷ 0x31 ∷ 0x00 ∷ 0x00 ∷ 0x01 ∷ 0x2b ∷ 0x34 ∷ 0x32 ∷ 0x00 ∷ 0x24 ∷
    0x01 ∷ 0x08 ∷ 0x00 ∷ 0x1e ∷ 0x00 ∷ 0x03 ∷ 0x41 ∷ 0x31 ∷ 0x00 ∷ 0x04 ∷ 0x23 ∷ 0x00 ∷ 0x03 ∷ 0x03 ∷ 0x00 ∷ 0x1b ∷
    0x04 ∷ 0x24 ∷ 0x00 ∷ 0x02 ∷ 0x61 ∷ 0x62 ∷ 0x04 ∷ 0x24 ∷ 0x00 ∷ 0x02 ∷ 0x63 ∷ 0x64 ∷ 0x04 ∷ 0x27 ∷ 0x00 ∷ 0x01 ∷
    0x02 ∷ []

-- what its body says
abbrev pub full_data_sm : DataSmValue
full_data_sm = record {
  esm_class = 0x24;
  registered_delivery = 1;
  number = Some (codes "42");
  source_ton = 2;
  source = Some (codes "41");
  receipted_message_id = Some (0x41 ∷ 0x31 ∷ 0 ∷ []);
  network_error_code = Some (3 ∷ 0 ∷ 27 ∷ []);
  message_payload = Some (codes "ab");
  message_state = Some (2 ∷ []);
}

-- what these octets say
abbrev pub full_data_sm_pdu : PduValue
full_data_sm_pdu = record { header = record { command = 0x0103; status = 2; seq = 3 }; body = DataSmBody full_data_sm }

-- what it says as a message
abbrev pub full_submit : SubmitValue
full_submit = record {
  registered_delivery = 1;
  number = Some (codes "42");
  source_ton = 2;
  source = Some (codes "41");
}

-- what it says as what a centre hands to a client
abbrev pub full_deliver : DeliverValue
full_deliver = record {
  esm_class = 0x24;
  short_message = [];
  receipted_message_id = Some (0x41 ∷ 0x31 ∷ 0 ∷ []);
  network_error_code = Some (3 ∷ 0 ∷ 27 ∷ []);
  message_payload = Some (codes "ab");
  message_state = Some (2 ∷ []);
}
