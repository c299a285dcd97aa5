-- The lines for messages and receipts that are written out.
use Rattle.std.specs.Prelude.{◌≡◌, ℕ, true, false, Bool, List, [], ◌∷◌, map, codes, Option, Some, None, ℤ, pos}
use Rattle.smq_kit.specs.declared.message_id.Form.TheVariants.{Decimal, Hexadecimal}
use Rattle.smq_kit.specs.declared.message_id.Key.TheVariants.{Number, Text}
use Rattle.smq_kit.specs.declared.place.Dir.TheVariants.{FromClient, FromCentre}
use Rattle.smq_receipt.specs.declared.message_state.MessageState.{MessageState}
use Rattle.smq_receipt.specs.declared.message_state.MessageState.TheVariants.{Enroute, Delivered, Undeliverable}
use Rattle.smq_receipt.specs.declared.reading.Reading.TheVariants as v
use Rattle.smq_receipt.specs.declared.reading.Receipt.{Receipt}
use Rattle.smq_kit.specs.declared.error_code.ErrorCode.TheVariants as e
use Rattle.smq_tally.specs.declared.outcome.Outcome.TheVariants as o
use Rattle.smq_present.specs.join.Lines.{MessageLineValue, ReceiptLineValue}
use Rattle.smq_present.specs.declared.join.lines.ReceiptStanding.TheVariants.{Stray, Deciding, Extra, Noted, Ambiguous}
use Rattle.smq_present.specs.declared.pairing.pairs.SessionForms.{SessionForms}
use Rattle.smq_present.specs.present.Content as c
use Rattle.smq_present.specs.declared.present.kept.StoredPdu.{StoredPdu}
use Rattle.smq_present.specs.known.Pairing.{data_sm, place_at, receipt_pdu, receipt_saying, said, submit}
use Rattle.smq_present.specs.present.Settings.{SettingsValue, opening_forms}
use Rattle.smq_present.specs.within.Messages.{SubmittedMessage, message_of}
use Rattle.smq_present.specs.within.Receipts.{KeyedReceipt, keyed_receipt}
use Rattle.smq_scratch.specs.Lines.{message_line, receipt_line}

-- a session of link 1, whose ids are taken verbatim
abbrev pub known_source : ℕ → SessionForms
known_source session = record { session = record { 0 = session }; link = record { 0 = 1 }; forms = opening_forms }

-- a response at an offset, with this command_id, this command_status and this id
abbrev pub known_response : ℕ → ℕ → ℕ → List ℕ → StoredPdu
known_response offset command status id =
    record { offset = offset; moment = 1200; command = command; status = status; seq = 1; content = c.SubmitAnswer (Some id) }

-- a submit_sm of session 10 at an offset that asks for a receipt, with this number and this response
abbrev pub known_submit : ℕ → Option (List ℕ) → Option StoredPdu → SubmittedMessage
known_submit offset number response =
    message_of (known_source 10) (submit offset 1 1) (said 1 number) response

-- six messages: one that is accepted with the id 7, two that are with 8, one without a response, one whose response is that to a
-- data_sm, and one that is refused
abbrev pub known_submits : List SubmittedMessage
known_submits =
    known_submit 0 (Some (codes "44")) (Some (known_response 0 0x8000_0004 0 (codes "7")))
    ∷ known_submit 34 None (Some (known_response 18 0x8000_0004 0 (codes "8")))
    ∷ known_submit 68 None (Some (known_response 36 0x8000_0004 0 (codes "8")))
    ∷ known_submit 102 None None
    ∷ known_submit 136 None (Some (known_response 54 0x8000_0103 0 (codes "9")))
    ∷ known_submit 170 None (Some (known_response 72 0x8000_0004 8 (codes "9"))) ∷ []

-- a receipt of session 11 at an offset and a moment, of this id, with this state and this delay at the centre
abbrev pub known_receipt : ℕ → ℕ → List ℕ → MessageState → Bool → Option ℤ → KeyedReceipt
known_receipt offset moment id state interim delay =
    let receipt = record (receipt_saying state e.Unstated interim) { id = id; centre_delay = delay } in
    keyed_receipt (known_source 11) (receipt_pdu offset moment receipt) receipt

-- seven receipts: five of the id 7, the first of which comes last, two can decide nothing, and two come at one moment; and one each of
-- 8 and 9
abbrev pub known_receipts : List KeyedReceipt
known_receipts =
    known_receipt 0 6000 (codes "7") Undeliverable false None
    ∷ known_receipt 60 4000 (codes "7") Enroute false None
    ∷ known_receipt 120 4000 (codes "7") Delivered true None
    ∷ known_receipt 180 5000 (codes "7") Delivered false (Some (pos 3000))
    ∷ known_receipt 240 5000 (codes "7") Delivered false None
    ∷ known_receipt 300 5000 (codes "8") Delivered false None
    ∷ known_receipt 360 5000 (codes "9") Delivered false None ∷ []

-- the lines for these messages
abbrev pub known_lines : SettingsValue → List MessageLineValue
known_lines s = map (message_line s known_submits known_receipts) known_submits

-- the lines for these receipts
abbrev pub known_receipt_lines : List ReceiptLineValue
known_receipt_lines = map (receipt_line known_submits known_receipts) known_receipts

-- What the lines for the messages say, whatever is set.
pub record KnownMessageLines (s : SettingsValue) : Type 0 where
  pub places :
      map (λ line. line.fact.place) (known_lines s)
      ≡ place_at 10 FromClient 0 ∷ place_at 10 FromClient 34 ∷ place_at 10 FromClient 68 ∷ place_at 10 FromClient 102
      ∷ place_at 10 FromClient 136 ∷ place_at 10 FromClient 170 ∷ []
  pub outcomes :
      map (λ line. line.fact.outcome) (known_lines s)
      ≡ o.Delivered ∷ o.Ambiguous ∷ o.Ambiguous ∷ o.Waiting ∷ o.Mismatched ∷ o.Refused ∷ []
  pub moments : map (λ line. line.moment) (known_lines s) ≡ 1000 ∷ 1000 ∷ 1000 ∷ 1000 ∷ 1000 ∷ 1000 ∷ []
  pub numbers :
      map (λ line. line.number) (known_lines s)
      ≡ Some (codes "44") ∷ None ∷ None ∷ None ∷ None ∷ None ∷ []
  pub ids :
      map (λ line. line.id) (known_lines s)
      ≡ Some (codes "7") ∷ Some (codes "8") ∷ Some (codes "8") ∷ None ∷ None ∷ None ∷ []
  pub responses :
      map (λ line. line.response) (known_lines s)
      ≡ Some 0 ∷ Some 18 ∷ Some 36 ∷ None ∷ Some 54 ∷ Some 72 ∷ []
  pub receipts :
      map (λ line. line.receipt) (known_lines s)
      ≡ Some (record { place = place_at 11 FromCentre 180; moment = 5000; centre_delay = Some (pos 3000) })
      ∷ None ∷ None ∷ None ∷ None ∷ None ∷ []

-- What the lines for the receipts say.
pub record KnownReceiptLines : Type 0 where
  pub places :
      map (λ line. line.place) known_receipt_lines
      ≡ place_at 11 FromCentre 0 ∷ place_at 11 FromCentre 60 ∷ place_at 11 FromCentre 120 ∷ place_at 11 FromCentre 180
      ∷ place_at 11 FromCentre 240 ∷ place_at 11 FromCentre 300 ∷ place_at 11 FromCentre 360 ∷ []
  pub links : map (λ line. line.link.0) known_receipt_lines ≡ 1 ∷ 1 ∷ 1 ∷ 1 ∷ 1 ∷ 1 ∷ 1 ∷ []
  pub moments : map (λ line. line.moment) known_receipt_lines ≡ 6000 ∷ 4000 ∷ 4000 ∷ 5000 ∷ 5000 ∷ 5000 ∷ 5000 ∷ []
  pub states :
      map (λ line. line.receipt.state) known_receipt_lines
      ≡ Undeliverable ∷ Enroute ∷ Delivered ∷ Delivered ∷ Delivered ∷ Delivered ∷ Delivered ∷ []
  pub standings :
      map (λ line. line.standing) known_receipt_lines
      ≡ Extra ∷ Noted ∷ Noted ∷ Deciding ∷ Extra ∷ Ambiguous ∷ Stray ∷ []
  pub messages :
      map (λ line. line.message) known_receipt_lines
      ≡ Some (place_at 10 FromClient 0) ∷ Some (place_at 10 FromClient 0) ∷ Some (place_at 10 FromClient 0)
      ∷ Some (place_at 10 FromClient 0) ∷ Some (place_at 10 FromClient 0) ∷ None ∷ None ∷ []

-- ---- keys and commands

-- a session of link 1, whose ids are in hexadecimal in responses and in decimal in receipts
abbrev pub numbered_source : ℕ → SessionForms
numbered_source session = record (known_source session) { forms = record { response = Hexadecimal; receipt = Decimal } }

-- a PDU of session 10 from ACME that asks for a receipt, with this response
abbrev pub numbered_submit : StoredPdu → Option StoredPdu → SubmittedMessage
numbered_submit request response =
    message_of (numbered_source 10) request (record (said 1 None) { source_ton = 5; source = Some (codes "ACME") }) response

-- four messages: a submit_sm that is accepted with the id 1F, a data_sm that is with 010, one that is with 1G, which is no number, and
-- a submit_sm without a response
abbrev pub numbered_submits : List SubmittedMessage
numbered_submits =
    numbered_submit (submit 0 1 1) (Some (known_response 0 0x8000_0004 0 (codes "1F")))
    ∷ numbered_submit (data_sm 34 1 1 v.NotReceipt) (Some (known_response 18 0x8000_0103 0 (codes "010")))
    ∷ numbered_submit (data_sm 68 1 1 v.NotReceipt) (Some (known_response 36 0x8000_0103 0 (codes "1G")))
    ∷ numbered_submit (submit 102 1 1) None ∷ []

-- a receipt of this id, which says that the message was delivered
abbrev pub numbered_receipt : List ℕ → Receipt
numbered_receipt id = record (receipt_saying Delivered e.Unstated false) { id = id }

-- a deliver_sm and a data_sm of session 11 at an offset that are such a receipt
abbrev pub in_deliver_sm : ℕ → List ℕ → KeyedReceipt
in_deliver_sm offset id = keyed_receipt (numbered_source 11) (receipt_pdu offset 5000 (numbered_receipt id)) (numbered_receipt id)

abbrev pub in_data_sm : ℕ → List ℕ → KeyedReceipt
in_data_sm offset id =
    keyed_receipt (numbered_source 11) (data_sm offset 91 0 (v.Receipt (numbered_receipt id))) (numbered_receipt id)

-- four receipts: a deliver_sm of the id 031, a data_sm of 16, one of 1F, which is no number, and a deliver_sm of 1G, which is none either
abbrev pub numbered_receipts : List KeyedReceipt
numbered_receipts =
    in_deliver_sm 0 (codes "031") ∷ in_data_sm 60 (codes "16") ∷ in_data_sm 120 (codes "1F") ∷ in_deliver_sm 180 (codes "1G") ∷ []

-- What the lines for these messages and receipts say of keys and commands, whatever else is set, and which match.
pub record KnownKeyLines (s : SettingsValue) : Type 0 where
  pub keys :
      map (λ line. line.key) (map (message_line s numbered_submits numbered_receipts) numbered_submits)
      ≡ Some (Number 31) ∷ Some (Number 16) ∷ Some (Text (codes "1G")) ∷ None ∷ []
  pub commands :
      map (λ line. line.command) (map (message_line s numbered_submits numbered_receipts) numbered_submits)
      ≡ 0x0000_0004 ∷ 0x0000_0103 ∷ 0x0000_0103 ∷ 0x0000_0004 ∷ []
  pub tons : map (λ line. line.source_ton) (map (message_line s numbered_submits numbered_receipts) numbered_submits) ≡ 5 ∷ 5 ∷ 5 ∷ 5 ∷ []
  pub sources :
      map (λ line. line.source) (map (message_line s numbered_submits numbered_receipts) numbered_submits)
      ≡ Some (codes "ACME") ∷ Some (codes "ACME") ∷ Some (codes "ACME") ∷ Some (codes "ACME") ∷ []
  pub keys_of_receipts :
      map (λ line. line.key) (map (receipt_line numbered_submits numbered_receipts) numbered_receipts)
      ≡ Number 31 ∷ Number 16 ∷ Text (codes "1F") ∷ Text (codes "1G") ∷ []
  pub commands_of_receipts :
      map (λ line. line.command) (map (receipt_line numbered_submits numbered_receipts) numbered_receipts)
      ≡ 0x0000_0005 ∷ 0x0000_0103 ∷ 0x0000_0103 ∷ 0x0000_0005 ∷ []
  pub matches :
      map (λ line. line.message) (map (receipt_line numbered_submits numbered_receipts) numbered_receipts)
      ≡ Some (place_at 10 FromClient 0) ∷ Some (place_at 10 FromClient 34) ∷ None ∷ Some (place_at 10 FromClient 68) ∷ []
