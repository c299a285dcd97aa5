-- What is kept of known PDUs.
use Rattle.std.specs.Prelude.{◌≡◌, ℕ, [], ◌∷◌, codes, Some, None}
use Rattle.smq_pdu.specs.Bodies.{SubmitAnswerBody}
use Rattle.smq_pdu.specs.KnownDataSms.{data_sm_pdu, data_sm_receipt_pdu}
use Rattle.smq_pdu.specs.Pdu.{PduValue}
use Rattle.smq_pdu.specs.Placed.{PlacedPdu}
use Rattle.smq_receipt.specs.declared.reading.Reading.TheVariants.{NotReceipt}
use Rattle.smq_present.specs.present.Content as c
use Rattle.smq_present.specs.present.Kept.{kept_pdu, submit_in}
use Rattle.smq_present.specs.known.Pairing.{pdu, said}

-- a PDU at an offset
abbrev pub known_at : ℕ → PduValue → PlacedPdu
known_at offset value = record { offset = offset; moment = 1000; pdu = value }

-- a submit_sm_resp of which each word has both high and low bits
abbrev pub high_words : PduValue
high_words = record {
  header = record { command = 0x8000_0004; status = 0x0002_0001; seq = 0x0003_0001 };
  body = SubmitAnswerBody (Some (49 ∷ []));
}

-- What is kept of PDUs that are written out: each word whole; a data_sm that asks for a receipt and is none; and of one that is a
-- receipt, that it asks for none.
pub record KnownKept : Type 0 where
  pub high :
      kept_pdu (known_at 0x0001_0000_0001 high_words)
      ≡ pdu 0x0001_0000_0001 0x8000_0004 0x0002_0001 0x0003_0001 (c.SubmitAnswer (Some (49 ∷ [])))
  pub asking :
      kept_pdu (known_at 0 data_sm_pdu)
      ≡ pdu 0 0x0000_0103 0 1
      (c.DataSm (record { registered_delivery = 1; number = Some (codes "447700900123"); source_ton = 0; source = Some (codes "1000") })
      NotReceipt)
  pub not_asking :
      submit_in (kept_pdu (known_at 0 data_sm_receipt_pdu)).content
      ≡ Some (said 0 None)
