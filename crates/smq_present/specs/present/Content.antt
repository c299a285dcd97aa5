-- What is kept of a PDU's body.
use Rattle.std.specs.Prelude.{ℕ, List, Option}
use Rattle.smq_pdu.specs.declared.body.Submit.{Submit as SubmitOf}
use Rattle.smq_receipt.specs.declared.reading.Reading.{Reading}

-- a submit_sm, as it was decoded; a submit_sm_resp or data_sm_resp, with its message_id, where it has one; a deliver_sm, as
-- what it says as a delivery receipt; a data_sm, as both a message and what it says so; another command; or a submit_sm,
-- deliver_sm or data_sm whose mandatory fields don't fit (SMPP 3.4, 4.4, 4.6.1 and 4.7)
pub data Content : Type 0 where
  Submit : SubmitOf → Content
  SubmitAnswer : Option (List ℕ) → Content
  Deliver : Reading → Content
  DataSm : SubmitOf → Reading → Content
  Other : Content
  Undecodable : Content
