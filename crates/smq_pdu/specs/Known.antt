-- PDUs and headers of which it is known what they say.
use Rattle.std.specs.Prelude.{◌≡◌, ℕ, true, false, List, [], ◌∷◌, codes, Some, None}
use Rattle.smq_pdu.specs.Header.{Header, header_with}
use Rattle.smq_pdu.specs.Fields.{Address}
use Rattle.smq_pdu.specs.Parameters.{Tlv}
use Rattle.smq_pdu.specs.Bodies.{SubmitBody, SubmitAnswerBody, DeliverBody, OtherBody, UndecodableBody}
use Rattle.smq_pdu.specs.Pdu.{PduValue}
use Rattle.smq_pdu.specs.Pairing.{is_request, is_response}

-- ---- PDUs

-- a submit_sm from 1000 to 447700900123 that asks for a receipt
abbrev pub submit_octets : List ℕ
submit_octets =
    0x00 ∷ 0x00 ∷ 0x00 ∷ 0x31 ∷ 0x00 ∷ 0x00 ∷ 0x00 ∷ 0x04 ∷ 0x00 ∷ 0x00 ∷ 0x00 ∷ 0x00 ∷ 0x00 ∷ 0x00 ∷ 0x00 ∷ 0x01 ∷
    0x00 ∷ 0x00 ∷ 0x00 ∷ 0x31 ∷ 0x30 ∷ 0x30 ∷ 0x30 ∷ 0x00 ∷ 0x01 ∷ 0x01 ∷ 0x34 ∷ 0x34 ∷ 0x37 ∷ 0x37 ∷ 0x30 ∷ 0x30 ∷
    0x39 ∷ 0x30 ∷ 0x30 ∷ 0x31 ∷ 0x32 ∷ 0x33 ∷ 0x00 ∷ 0x00 ∷ 0x00 ∷ 0x00 ∷ 0x00 ∷ 0x00 ∷ 0x01 ∷ 0x00 ∷ 0x00 ∷ 0x00 ∷
    0x00 ∷ []

-- what these octets say
abbrev pub submit_pdu : PduValue
submit_pdu = record {
  header = record { command = 4; status = 0; seq = 1 };
  body = SubmitBody (record {
    registered_delivery = 1;
    number = Some (codes "447700900123");
    source_ton = 0;
    source = Some (codes "1000");
  });
}

-- a submit_sm to +447700900123 of international type
abbrev pub plus_octets : List ℕ
plus_octets =
    0x00 ∷ 0x00 ∷ 0x00 ∷ 0x32 ∷ 0x00 ∷ 0x00 ∷ 0x00 ∷ 0x04 ∷ 0x00 ∷ 0x00 ∷ 0x00 ∷ 0x00 ∷ 0x00 ∷ 0x00 ∷ 0x00 ∷ 0x01 ∷
    0x00 ∷ 0x00 ∷ 0x00 ∷ 0x31 ∷ 0x30 ∷ 0x30 ∷ 0x30 ∷ 0x00 ∷ 0x01 ∷ 0x01 ∷ 0x2b ∷ 0x34 ∷ 0x34 ∷ 0x37 ∷ 0x37 ∷ 0x30 ∷
    0x30 ∷ 0x39 ∷ 0x30 ∷ 0x30 ∷ 0x31 ∷ 0x32 ∷ 0x33 ∷ 0x00 ∷ 0x00 ∷ 0x00 ∷ 0x00 ∷ 0x00 ∷ 0x00 ∷ 0x01 ∷ 0x00 ∷ 0x00 ∷
    0x00 ∷ 0x00 ∷ []

-- what these octets say
abbrev pub plus_pdu : PduValue
plus_pdu = record {
  header = record { command = 4; status = 0; seq = 1 };
  body = SubmitBody (record {
    registered_delivery = 1;
    number = Some (codes "447700900123");
    source_ton = 0;
    source = Some (codes "1000");
  });
}

-- a submit_sm to 447700900123 of national type
abbrev pub national_octets : List ℕ
national_octets =
    0x00 ∷ 0x00 ∷ 0x00 ∷ 0x31 ∷ 0x00 ∷ 0x00 ∷ 0x00 ∷ 0x04 ∷ 0x00 ∷ 0x00 ∷ 0x00 ∷ 0x00 ∷ 0x00 ∷ 0x00 ∷ 0x00 ∷ 0x01 ∷
    0x00 ∷ 0x00 ∷ 0x00 ∷ 0x31 ∷ 0x30 ∷ 0x30 ∷ 0x30 ∷ 0x00 ∷ 0x02 ∷ 0x01 ∷ 0x34 ∷ 0x34 ∷ 0x37 ∷ 0x37 ∷ 0x30 ∷ 0x30 ∷
    0x39 ∷ 0x30 ∷ 0x30 ∷ 0x31 ∷ 0x32 ∷ 0x33 ∷ 0x00 ∷ 0x00 ∷ 0x00 ∷ 0x00 ∷ 0x00 ∷ 0x00 ∷ 0x01 ∷ 0x00 ∷ 0x00 ∷ 0x00 ∷
    0x00 ∷ []

-- what these octets say
abbrev pub national_pdu : PduValue
national_pdu = record {
  header = record { command = 4; status = 0; seq = 1 };
  body = SubmitBody (record {
    registered_delivery = 1;
    number = None;
    source_ton = 0;
    source = Some (codes "1000");
  });
}

-- a submit_sm to 16 digits
abbrev pub too_long_octets : List ℕ
too_long_octets =
    0x00 ∷ 0x00 ∷ 0x00 ∷ 0x35 ∷ 0x00 ∷ 0x00 ∷ 0x00 ∷ 0x04 ∷ 0x00 ∷ 0x00 ∷ 0x00 ∷ 0x00 ∷ 0x00 ∷ 0x00 ∷ 0x00 ∷ 0x01 ∷
    0x00 ∷ 0x00 ∷ 0x00 ∷ 0x31 ∷ 0x30 ∷ 0x30 ∷ 0x30 ∷ 0x00 ∷ 0x01 ∷ 0x01 ∷ 0x34 ∷ 0x34 ∷ 0x37 ∷ 0x37 ∷ 0x30 ∷ 0x30 ∷
    0x39 ∷ 0x30 ∷ 0x30 ∷ 0x31 ∷ 0x32 ∷ 0x33 ∷ 0x34 ∷ 0x35 ∷ 0x36 ∷ 0x37 ∷ 0x00 ∷ 0x00 ∷ 0x00 ∷ 0x00 ∷ 0x00 ∷ 0x00 ∷
    0x01 ∷ 0x00 ∷ 0x00 ∷ 0x00 ∷ 0x00 ∷ []

-- what these octets say
abbrev pub too_long_pdu : PduValue
too_long_pdu = record {
  header = record { command = 4; status = 0; seq = 1 };
  body = SubmitBody (record {
    registered_delivery = 1;
    number = None;
    source_ton = 0;
    source = Some (codes "1000");
  });
}

-- a submit_sm from ACME of alphanumeric type
abbrev pub alphanumeric_octets : List ℕ
alphanumeric_octets =
    0x00 ∷ 0x00 ∷ 0x00 ∷ 0x31 ∷ 0x00 ∷ 0x00 ∷ 0x00 ∷ 0x04 ∷ 0x00 ∷ 0x00 ∷ 0x00 ∷ 0x00 ∷ 0x00 ∷ 0x00 ∷ 0x00 ∷ 0x01 ∷
    0x00 ∷ 0x05 ∷ 0x00 ∷ 0x41 ∷ 0x43 ∷ 0x4d ∷ 0x45 ∷ 0x00 ∷ 0x01 ∷ 0x01 ∷ 0x34 ∷ 0x34 ∷ 0x37 ∷ 0x37 ∷ 0x30 ∷ 0x30 ∷
    0x39 ∷ 0x30 ∷ 0x30 ∷ 0x31 ∷ 0x32 ∷ 0x33 ∷ 0x00 ∷ 0x00 ∷ 0x00 ∷ 0x00 ∷ 0x00 ∷ 0x00 ∷ 0x01 ∷ 0x00 ∷ 0x00 ∷ 0x00 ∷
    0x00 ∷ []

-- what these octets say
abbrev pub alphanumeric_pdu : PduValue
alphanumeric_pdu = record {
  header = record { command = 4; status = 0; seq = 1 };
  body = SubmitBody (record {
    registered_delivery = 1;
    number = Some (codes "447700900123");
    source_ton = 5;
    source = Some (codes "ACME");
  });
}

-- a submit_sm to 447700900124
abbrev pub other_octets : List ℕ
other_octets =
    0x00 ∷ 0x00 ∷ 0x00 ∷ 0x31 ∷ 0x00 ∷ 0x00 ∷ 0x00 ∷ 0x04 ∷ 0x00 ∷ 0x00 ∷ 0x00 ∷ 0x00 ∷ 0x00 ∷ 0x00 ∷ 0x00 ∷ 0x01 ∷
    0x00 ∷ 0x00 ∷ 0x00 ∷ 0x31 ∷ 0x30 ∷ 0x30 ∷ 0x30 ∷ 0x00 ∷ 0x01 ∷ 0x01 ∷ 0x34 ∷ 0x34 ∷ 0x37 ∷ 0x37 ∷ 0x30 ∷ 0x30 ∷
    0x39 ∷ 0x30 ∷ 0x30 ∷ 0x31 ∷ 0x32 ∷ 0x34 ∷ 0x00 ∷ 0x00 ∷ 0x00 ∷ 0x00 ∷ 0x00 ∷ 0x00 ∷ 0x01 ∷ 0x00 ∷ 0x00 ∷ 0x00 ∷
    0x00 ∷ []

-- the response to the first, with the id "1"
abbrev pub response_octets : List ℕ
response_octets =
    0x00 ∷ 0x00 ∷ 0x00 ∷ 0x12 ∷ 0x80 ∷ 0x00 ∷ 0x00 ∷ 0x04 ∷ 0x00 ∷ 0x00 ∷ 0x00 ∷ 0x00 ∷ 0x00 ∷ 0x00 ∷ 0x00 ∷ 0x01 ∷
    0x31 ∷ 0x00 ∷ []

-- what these octets say
abbrev pub response_pdu : PduValue
response_pdu = record {
  header = record { command = 0x8000_0004; status = 0; seq = 1 };
  body = SubmitAnswerBody (Some (codes "1"));
}

-- a delivery receipt with the parameter message_state
abbrev pub receipt_octets : List ℕ
receipt_octets =
    0x00 ∷ 0x00 ∷ 0x00 ∷ 0x3f ∷ 0x00 ∷ 0x00 ∷ 0x00 ∷ 0x05 ∷ 0x00 ∷ 0x00 ∷ 0x00 ∷ 0x00 ∷ 0x00 ∷ 0x00 ∷ 0x00 ∷ 0x01 ∷
    0x00 ∷ 0x00 ∷ 0x00 ∷ 0x00 ∷ 0x00 ∷ 0x00 ∷ 0x00 ∷ 0x04 ∷ 0x00 ∷ 0x00 ∷ 0x00 ∷ 0x00 ∷ 0x00 ∷ 0x00 ∷ 0x00 ∷ 0x00 ∷
    0x19 ∷ 0x69 ∷ 0x64 ∷ 0x3a ∷ 0x31 ∷ 0x20 ∷ 0x73 ∷ 0x74 ∷ 0x61 ∷ 0x74 ∷ 0x3a ∷ 0x55 ∷ 0x4e ∷ 0x44 ∷ 0x45 ∷ 0x4c ∷
    0x49 ∷ 0x56 ∷ 0x20 ∷ 0x65 ∷ 0x72 ∷ 0x72 ∷ 0x3a ∷ 0x30 ∷ 0x32 ∷ 0x37 ∷ 0x04 ∷ 0x27 ∷ 0x00 ∷ 0x01 ∷ 0x02 ∷ []

-- what these octets say
abbrev pub receipt_pdu : PduValue
receipt_pdu = record {
  header = record { command = 5; status = 0; seq = 1 };
  body = DeliverBody (record {
    esm_class = 4;
    short_message = codes "id:1 stat:UNDELIV err:027";
    receipted_message_id = None;
    network_error_code = None;
    message_payload = None;
    message_state = Some (2 ∷ []);
  });
}

-- a delivery receipt with each of the four parameters that are read
abbrev pub all_parameters_octets : List ℕ
all_parameters_octets =
    0x00 ∷ 0x00 ∷ 0x00 ∷ 0x3a ∷ 0x00 ∷ 0x00 ∷ 0x00 ∷ 0x05 ∷ 0x00 ∷ 0x00 ∷ 0x00 ∷ 0x00 ∷ 0x00 ∷ 0x00 ∷ 0x00 ∷ 0x02 ∷
    0x00 ∷ 0x00 ∷ 0x00 ∷ 0x00 ∷ 0x00 ∷ 0x00 ∷ 0x00 ∷ 0x04 ∷ 0x00 ∷ 0x00 ∷ 0x00 ∷ 0x00 ∷ 0x00 ∷ 0x00 ∷ 0x00 ∷ 0x00 ∷
    0x00
    ∷ 0x00 ∷ 0x1e ∷ 0x00 ∷ 0x03 ∷ 0x41 ∷ 0x31 ∷ 0x00
    ∷ 0x04 ∷ 0x23 ∷ 0x00 ∷ 0x03 ∷ 0x03 ∷ 0x00 ∷ 0x1b
    ∷ 0x04 ∷ 0x24 ∷ 0x00 ∷ 0x02 ∷ 0x68 ∷ 0x69
    ∷ 0x04 ∷ 0x27 ∷ 0x00 ∷ 0x01 ∷ 0x02 ∷ []

-- what these octets say
abbrev pub all_parameters_pdu : PduValue
all_parameters_pdu = record {
  header = record { command = 5; status = 0; seq = 2 };
  body = DeliverBody (record {
    esm_class = 4;
    short_message = [];
    receipted_message_id = Some (0x41 ∷ 0x31 ∷ 0 ∷ []);
    network_error_code = Some (3 ∷ 0 ∷ 27 ∷ []);
    message_payload = Some (codes "hi");
    message_state = Some (2 ∷ []);
  });
}

-- a submit_sm that ends before dest_addr_ton
abbrev pub cut_octets : List ℕ
cut_octets =
    0x00 ∷ 0x00 ∷ 0x00 ∷ 0x14 ∷ 0x00 ∷ 0x00 ∷ 0x00 ∷ 0x04 ∷ 0x00 ∷ 0x00 ∷ 0x00 ∷ 0x00 ∷ 0x00 ∷ 0x00 ∷ 0x00 ∷ 0x01 ∷
    0x00 ∷ 0x00 ∷ 0x00 ∷ 0x00 ∷ []

-- what these octets say
abbrev pub cut_pdu : PduValue
cut_pdu = record { header = record { command = 4; status = 0; seq = 1 }; body = UndecodableBody }

-- a generic_nack with status 3
abbrev pub nack_octets : List ℕ
nack_octets =
    0x00 ∷ 0x00 ∷ 0x00 ∷ 0x10 ∷ 0x80 ∷ 0x00 ∷ 0x00 ∷ 0x00 ∷ 0x00 ∷ 0x00 ∷ 0x00 ∷ 0x03 ∷ 0x00 ∷ 0x00 ∷ 0x00 ∷ 0x07 ∷
    []

-- what these octets say
abbrev pub nack_pdu : PduValue
nack_pdu = record { header = record { command = 0x8000_0000; status = 3; seq = 7 }; body = OtherBody }

-- a header of which each octet after command_length is another
abbrev pub words_octets : List ℕ
words_octets =
    0x00 ∷ 0x00 ∷ 0x00 ∷ 0x10 ∷ 0x01 ∷ 0x02 ∷ 0x03 ∷ 0x04 ∷ 0x05 ∷ 0x06 ∷ 0x07 ∷ 0x08 ∷ 0x09 ∷ 0x0a ∷ 0x0b ∷ 0x0c ∷
    []

-- what these octets say
abbrev pub words_pdu : PduValue
words_pdu = record {
  header = record { command = 0x0102_0304; status = 0x0506_0708; seq = 0x090a_0b0c };
  body = OtherBody;
}

-- ---- message ids

-- an id of 64 octets
abbrev pub id_of_64 : List ℕ
id_of_64 = codes "0123456789012345678901234567890123456789012345678901234567890123"

-- ---- addresses

-- an address of this type of number, where the numbering plan doesn't matter
abbrev pub address_with : ℕ → List ℕ → Address
address_with ton text = record { ton = ton; npi = 1; text = text }

-- ---- parameters

-- network_error_code, message_state 2, message_state 5, and a message_payload of four octets that is cut off
abbrev pub parameter_octets : List ℕ
parameter_octets =
    0x04 ∷ 0x23 ∷ 0x00 ∷ 0x03 ∷ 0x03 ∷ 0x00 ∷ 0x1b
    ∷ 0x04 ∷ 0x27 ∷ 0x00 ∷ 0x01 ∷ 0x02
    ∷ 0x04 ∷ 0x27 ∷ 0x00 ∷ 0x01 ∷ 0x05
    ∷ 0x04 ∷ 0x24 ∷ 0x00 ∷ 0x04 ∷ 0x61 ∷ 0x62 ∷ 0x63 ∷ []

-- the whole ones among them
abbrev pub parameter_tlvs : List Tlv
parameter_tlvs =
    (record { tag = 0x0423; value = 3 ∷ 0 ∷ 27 ∷ [] })
    ∷ (record { tag = 0x0427; value = 2 ∷ [] })
    ∷ (record { tag = 0x0427; value = 5 ∷ [] })
    ∷ []

-- what is left after those
abbrev pub parameter_rest : List ℕ
parameter_rest = 0x04 ∷ 0x24 ∷ 0x00 ∷ 0x04 ∷ 0x61 ∷ 0x62 ∷ 0x63 ∷ []

-- ---- commands

-- a PDU with this command is a request and no response
pub record IsRequestCommand (command : ℕ) : Type 0 where
  pub request : is_request (header_with command) ≡ true
  pub no_response : is_response (header_with command) ≡ false

-- a PDU with this command is a response and no request
pub record IsResponseCommand (command : ℕ) : Type 0 where
  pub response : is_response (header_with command) ≡ true
  pub no_request : is_request (header_with command) ≡ false

-- a PDU with this command is neither
pub record IsNeitherCommand (command : ℕ) : Type 0 where
  pub no_request : is_request (header_with command) ≡ false
  pub no_response : is_response (header_with command) ≡ false

-- ---- a short session

-- submit_sm and enquire_link of one number, a response between them, and a request of another number
abbrev pub short_requests : List Header
short_requests =
    (record { command = 0x0000_0004; status = 0; seq = 7 })
    ∷ (record { command = 0x8000_0005; status = 0; seq = 7 })
    ∷ (record { command = 0x0000_0015; status = 0; seq = 7 })
    ∷ (record { command = 0x0000_0004; status = 0; seq = 8 })
    ∷ []

-- a request of that number, its two responses, and a generic_nack to the other number
abbrev pub short_responses : List Header
short_responses =
    (record { command = 0x0000_0005; status = 0; seq = 7 })
    ∷ (record { command = 0x8000_0015; status = 0; seq = 7 })
    ∷ (record { command = 0x8000_0004; status = 0; seq = 7 })
    ∷ (record { command = 0x8000_0000; status = 3; seq = 8 })
    ∷ []
