-- The commands of SMPP 3.4, section 5.1.2.1, that are told from others.
use Rattle.std.specs.Prelude.{ℕ}

-- the response to a PDU that could not be decoded or has an unknown command_id
abbrev pub generic_nack : ℕ
generic_nack = 0x8000_0000

-- a client hands a message to its centre
abbrev pub submit_sm : ℕ
submit_sm = 0x0000_0004

-- the response to that, with the message id
abbrev pub submit_sm_resp : ℕ
submit_sm_resp = 0x8000_0004

-- the centre hands a message or a delivery receipt to a client
abbrev pub deliver_sm : ℕ
deliver_sm = 0x0000_0005

-- either side hands the other a message, or the centre a delivery receipt, of which the text is a parameter
abbrev pub data_sm : ℕ
data_sm = 0x0000_0103

-- the response to that, with the message id
abbrev pub data_sm_resp : ℕ
data_sm_resp = 0x8000_0103

-- the centre asks a client to bind; it has no response
abbrev pub outbind : ℕ
outbind = 0x0000_000b

-- the centre tells that a subscriber can be reached; it has no response
abbrev pub alert_notification : ℕ
alert_notification = 0x0000_0102

-- the bit that a response's command_id has set
abbrev pub response_bit : ℕ
response_bit = 0x8000_0000
