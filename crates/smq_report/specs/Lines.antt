-- The texts of lines as CSV: a record of columns, and a record for each line.
use Rattle.std.specs.Prelude.{ℕ, List, [], ◌∷◌, ◌++◌, Option, Some, None, codes, unwrap_or}
use Rattle.std.specs.Fmt.{decimal, signed_decimal}
use Rattle.std.specs.List.{flat_map}
use Rattle.std.specs.Option.{option_and_then}
use Rattle.csv.specs.Writing.{default_writer, row_text}
use Rattle.smq_kit.specs.declared.message_id.Key.{Key}
use Rattle.smq_kit.specs.declared.message_id.Key.TheVariants.{Number, Text}
use Rattle.smq_tally.specs.Names.{outcome_name}
use Rattle.smq_tally.specs.Rows.{network_value, route_value}
use Rattle.smq_report.specs.Values.{code_text, error_text, value_text}
use Rattle.smq_present.specs.join.Lines.{MessageLineValue, ReceiptLineValue, standing_name}
use Rattle.smq_report.specs.Words.{command_name, state_name, yes_or_no}

-- a record as `csv` writes it: commas between its fields, a line feed after it, and a field between double quotes where it has a
-- comma, a double quote, which is written twice, or an end of a line
abbrev pub csv_record : List (List ℕ) → List ℕ
csv_record fields = row_text default_writer fields

-- the text of a value, and no octet where there is none
abbrev pub text_or_empty : {A : Type 0} → (A → List ℕ) → Option A → List ℕ
text_or_empty text None = []
text_or_empty text (Some value) = text value

-- the key of an id as it is printed: a number in decimal, a text as it stands
abbrev pub key_text : Key → List ℕ
key_text (Number number) = decimal number
key_text (Text id) = id

-- ---- lines for messages

-- the columns of lines for messages
abbrev pub message_columns : List (List ℕ)
message_columns =
    codes "link"
    ∷ codes "session"
    ∷ codes "offset"
    ∷ codes "moment"
    ∷ codes "number"
    ∷ codes "route"
    ∷ codes "network"
    ∷ codes "outcome"
    ∷ codes "error"
    ∷ codes "id"
    ∷ codes "response_offset"
    ∷ codes "receipt_session"
    ∷ codes "receipt_offset"
    ∷ codes "receipt_moment"
    ∷ codes "centre_delay"
    ∷ codes "key"
    ∷ codes "command"
    ∷ codes "source"
    ∷ codes "ton"
    ∷ []

-- the fields of a line for a message, one for each column: what a report prints of its route, its network and its error, and
-- nothing where it has no number, error, id, response, deciding receipt, centre's delay, key or source
abbrev pub message_fields : MessageLineValue → List (List ℕ)
message_fields line =
    decimal line.fact.link.0
    ∷ decimal line.fact.place.session.0
    ∷ decimal line.fact.place.offset
    ∷ decimal line.moment
    ∷ unwrap_or line.number []
    ∷ value_text (route_value line.fact.route)
    ∷ value_text (network_value line.fact.route)
    ∷ outcome_name line.fact.outcome
    ∷ text_or_empty error_text line.fact.error
    ∷ unwrap_or line.id []
    ∷ text_or_empty decimal line.response
    ∷ text_or_empty (λ receipt. decimal receipt.place.session.0) line.receipt
    ∷ text_or_empty (λ receipt. decimal receipt.place.offset) line.receipt
    ∷ text_or_empty (λ receipt. decimal receipt.moment) line.receipt
    ∷ text_or_empty signed_decimal (option_and_then (λ receipt. receipt.centre_delay) line.receipt)
    ∷ text_or_empty key_text line.key
    ∷ command_name line.command
    ∷ unwrap_or line.source []
    ∷ decimal line.source_ton
    ∷ []

-- the record of a line for a message
abbrev pub message_record : MessageLineValue → List ℕ
message_record line = csv_record (message_fields line)

-- the text of lines for messages: their columns, and then each line
abbrev pub messages_text : List MessageLineValue → List ℕ
messages_text lines = csv_record message_columns ++ flat_map message_record lines

-- ---- lines for delivery receipts

-- the columns of lines for delivery receipts
abbrev pub receipt_columns : List (List ℕ)
receipt_columns =
    codes "link"
    ∷ codes "session"
    ∷ codes "offset"
    ∷ codes "moment"
    ∷ codes "id"
    ∷ codes "state"
    ∷ codes "interim"
    ∷ codes "error"
    ∷ codes "standing"
    ∷ codes "message_session"
    ∷ codes "message_offset"
    ∷ codes "key"
    ∷ codes "command"
    ∷ []

-- the fields of a line for a delivery receipt, one for each column: what a report prints of its error, and nothing where it
-- matches no message
abbrev pub receipt_fields : ReceiptLineValue → List (List ℕ)
receipt_fields line =
    decimal line.link.0
    ∷ decimal line.place.session.0
    ∷ decimal line.place.offset
    ∷ decimal line.moment
    ∷ line.receipt.id
    ∷ state_name line.receipt.state
    ∷ yes_or_no line.receipt.interim
    ∷ code_text line.receipt.error
    ∷ standing_name line.standing
    ∷ text_or_empty (λ message. decimal message.session.0) line.message
    ∷ text_or_empty (λ message. decimal message.offset) line.message
    ∷ key_text line.key
    ∷ command_name line.command
    ∷ []

-- the record of a line for a delivery receipt
abbrev pub receipt_record : ReceiptLineValue → List ℕ
receipt_record line = csv_record (receipt_fields line)

-- the text of lines for delivery receipts: their columns, and then each line
abbrev pub receipts_text : List ReceiptLineValue → List ℕ
receipts_text lines = csv_record receipt_columns ++ flat_map receipt_record lines
