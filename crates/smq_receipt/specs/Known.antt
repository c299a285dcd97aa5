-- What the definitions say of known receipts and at each limit, so that none of them is right by itself alone.
use Rattle.std.specs.Prelude.{◌≡◌, ℕ, zero, suc, ◌+◌, List, [], ◌∷◌, ◌++◌, map, filter, codes, Option, Some, None, ℤ, pos, neg_ℤ, true, false}
use Rattle.smq_pdu.specs.Bodies.{DeliverValue, deliver_of_data_sm}
use Rattle.smq_pdu.specs.KnownDataSms.{data_sm_receipt}
use Rattle.smq_receipt.specs.Dates.{is_date, second_of_day_of, moment_of}
use Rattle.smq_receipt.specs.Errors.{network_code_in}
use Rattle.smq_receipt.specs.Readings.{is_receipt, is_interim, usable_id, receipted_id, state_in, reading_of}
use Rattle.smq_receipt.specs.States.{row_of, states, state_of_number}
use Rattle.smq_receipt.specs.declared.message_state.MessageState.{MessageState}
use Rattle.smq_receipt.specs.declared.message_state.MessageState.TheVariants.{Enroute, Delivered, Expired, Deleted, Undeliverable, Accepted, Unknown, Rejected}
use Rattle.smq_kit.specs.declared.error_code.ErrorCode.{ErrorCode}
use Rattle.smq_kit.specs.declared.error_code.ErrorCode.TheVariants.{Network, Text, Unstated}
use Rattle.smq_receipt.specs.declared.reading.Reading.{Reading}
use Rattle.smq_receipt.specs.declared.reading.Reading.TheVariants as v

-- a deliver_sm with this esm_class and text, and no optional parameter
abbrev pub deliver_saying : ℕ → List ℕ → DeliverValue
deliver_saying esm_class text = record {
  esm_class = esm_class;
  short_message = text;
  receipted_message_id = None;
  network_error_code = None;
  message_payload = None;
  message_state = None;
}

-- what is read of a delivery receipt with this text
abbrev pub reading_of_text : List ℕ → Reading
reading_of_text text = reading_of (deliver_saying 0x04 text)

-- what is read of a delivery receipt that says this
abbrev pub receipt_reading : List ℕ → MessageState → ErrorCode → Option ℤ → Reading
receipt_reading id state error delay =
    v.Receipt (record { id = id; state = state; interim = false; error = error; centre_delay = delay })

-- so many numbers, from this one on
abbrev pub numbers_from : ℕ → ℕ → List ℕ
numbers_from first zero = []
numbers_from first (suc more) = first ∷ numbers_from (first + 1) more

-- What is a receipt, an id, a state, a network's code and a date, at each limit and just past it.
pub record KnownLimits : Type 0 where
  -- of all values of esm_class, those that mark a receipt by themselves, and those that mark an interim one
  pub receipts : filter (λ esm_class. is_receipt (deliver_saying esm_class [])) (numbers_from 0 256)
      ≡ 4 ∷ 5 ∷ 6 ∷ 7 ∷ 32 ∷ 33 ∷ 34 ∷ 35 ∷ 68 ∷ 69 ∷ 70 ∷ 71 ∷ 96 ∷ 97 ∷ 98 ∷ 99 ∷ 132 ∷ 133 ∷
      134 ∷ 135 ∷ 160 ∷ 161 ∷ 162 ∷ 163 ∷ 196 ∷ 197 ∷ 198 ∷ 199 ∷ 224 ∷ 225 ∷ 226 ∷ 227 ∷ []
  pub interims : filter (λ esm_class. is_interim (deliver_saying esm_class [])) (numbers_from 0 256)
      ≡ 32 ∷ 33 ∷ 34 ∷ 35 ∷ 96 ∷ 97 ∷ 98 ∷ 99 ∷ 160 ∷ 161 ∷ 162 ∷ 163 ∷ 224 ∷ 225 ∷ 226 ∷ 227 ∷ []
  pub both_marks : is_receipt (deliver_saying 0x24 []) ≡ false
  pub an_id : is_receipt (record (deliver_saying 0x00 []) { receipted_message_id = Some [] }) ≡ true
  -- an id has 1 to 64 octets, before the first zero in receipted_message_id
  pub no_id : usable_id [] ≡ None
  pub id_1 : usable_id (codes "1") ≡ Some (codes "1")
  pub id_64 : usable_id (codes "0123456789012345678901234567890123456789012345678901234567890123")
      ≡ Some (codes "0123456789012345678901234567890123456789012345678901234567890123")
  pub id_65 : usable_id (codes "01234567890123456789012345678901234567890123456789012345678901234") ≡ None
  pub id_to_zero : receipted_id (55 ∷ 0 ∷ 56 ∷ []) ≡ Some (codes "7")
  pub zero_first : receipted_id (0 ∷ 55 ∷ []) ≡ None
  -- the table of states (SMPP 3.4, 5.2.28 and appendix B)
  pub numbers : map (λ state. (row_of state).number) states
      ≡ 1 ∷ 2 ∷ 3 ∷ 4 ∷ 5 ∷ 6 ∷ 7 ∷ 8 ∷ []
  pub words : map (λ state. (row_of state).word) states
      ≡ codes "ENROUTE" ∷ codes "DELIVRD" ∷ codes "EXPIRED" ∷ codes "DELETED" ∷ codes "UNDELIV"
      ∷ codes "ACCEPTD" ∷ codes "UNKNOWN" ∷ codes "REJECTD" ∷ []
  pub by_number : map state_of_number (numbers_from 0 10)
      ≡ None ∷ Some Enroute ∷ Some Delivered ∷ Some Expired ∷ Some Deleted ∷ Some Undeliverable
      ∷ Some Accepted ∷ Some Unknown ∷ Some Rejected ∷ None ∷ []
  pub final : filter (λ state. (row_of state).final) states
      ≡ Delivered ∷ Expired ∷ Deleted ∷ Undeliverable ∷ Unknown ∷ Rejected ∷ []
  pub two_octets : state_in (2 ∷ 2 ∷ []) ≡ None
  -- a network's code has three octets
  pub code : network_code_in (3 ∷ 1 ∷ 2 ∷ []) ≡ Some (Network 3 258)
  pub code_of_2 : network_code_in (1 ∷ 2 ∷ []) ≡ None
  pub code_of_4 : network_code_in (0 ∷ 3 ∷ 1 ∷ 2 ∷ []) ≡ None
  -- a clock's times and the calendar's days
  pub midnight : second_of_day_of 0 0 0 ≡ Some 0
  pub parts : second_of_day_of 1 2 3 ≡ Some 3723
  pub last_second : second_of_day_of 23 59 59 ≡ Some 86399
  pub hour_24 : second_of_day_of 24 0 0 ≡ None
  pub minute_60 : second_of_day_of 23 60 0 ≡ None
  pub second_60 : second_of_day_of 23 59 60 ≡ None
  pub leap_day : is_date 24 2 29 ≡ true
  pub no_leap_day : is_date 25 2 29 ≡ false
  pub month_0 : is_date 25 0 1 ≡ false
  pub month_13 : is_date 25 13 1 ≡ false
  pub day_0 : is_date 25 1 0 ≡ false
  pub day_31 : is_date 25 12 31 ≡ true
  pub day_32 : is_date 25 12 32 ≡ false
  pub minutes : moment_of (codes "2502281234") ≡ Some (pos 1740746040000)
  pub seconds : moment_of (codes "991231235958") ≡ Some (pos 4102444798000)
  pub digits_11 : moment_of (codes "25022812345") ≡ None
  pub digits_14 : moment_of (codes "25022812345600") ≡ None
  pub a_letter : moment_of (codes "25O2281234") ≡ None

-- Receipts of the typical form, with optional parameters, and those of which something can't be read.
pub record ReadingsOfKnownReceipts : Type 0 where
  pub typical : reading_of_text
      (codes "id:1 sub:001 dlvrd:001 submit date:2502280000 done date:2503010000 stat:DELIVRD err:000 Text:x")
      ≡ receipt_reading (codes "1") Delivered (Text (codes "000")) (Some (pos 86_400_000))
  pub short : reading_of_text (codes "id:1 stat:DELIVRD") ≡ receipt_reading (codes "1") Delivered Unstated None
  pub no_such_day : reading_of_text
      (codes "id:1 Submit Date:2502300000 done date:2503010000 stat:UNDELIV err:027")
      ≡ receipt_reading (codes "1") Undeliverable (Text (codes "027")) None
  pub backward : reading_of_text (codes "id:1 submit date:250301000010 done date:2503010000 stat:DELIVRD")
      ≡ receipt_reading (codes "1") Delivered Unstated (Some (neg_ℤ (pos 10_000)))
  pub first_of_two : reading_of_text (codes "xid:3 ID:1 id:2 stat:delivrd text: id:4")
      ≡ receipt_reading (codes "1") Delivered Unstated None
  pub message_state : reading_of
      (record (deliver_saying 0x04 (codes "id:1 stat:UNDELIV err:027")) { message_state = Some (2 ∷ []) })
      ≡ receipt_reading (codes "1") Delivered (Text (codes "027")) None
  pub network_error_code : reading_of
      (record (deliver_saying 0x04 (codes "id:1 stat:UNDELIV")) { network_error_code = Some (3 ∷ 0 ∷ 8 ∷ []) })
      ≡ receipt_reading (codes "1") Undeliverable (Network 3 8) None
  pub receipted_message_id : reading_of
      (record (deliver_saying 0x00 (codes "stat:DELIVRD")) { receipted_message_id = Some (49 ∷ 0 ∷ []) })
      ≡ receipt_reading (codes "1") Delivered Unstated None
  pub message_payload : reading_of
      (record (deliver_saying 0x04 []) { message_payload = Some (codes "id:1 stat:DELIVRD") })
      ≡ receipt_reading (codes "1") Delivered Unstated None
  pub data_sm : reading_of (deliver_of_data_sm data_sm_receipt) ≡ receipt_reading (codes "1") Delivered Unstated None
  pub interim : reading_of (deliver_saying 0x20 (codes "id:1 stat:DELIVRD"))
      ≡ v.Receipt
      (record { id = codes "1"; state = Delivered; interim = true; error = Unstated; centre_delay = None })
  pub other_word : reading_of_text (codes "id:1 stat:WHAT") ≡ v.NoState
  pub space_first : reading_of_text (codes "id: 1 stat:DELIVRD") ≡ v.NoId
  pub empty : reading_of_text [] ≡ v.NoId
  pub unmarked : reading_of (deliver_saying 0x00 (codes "id:1 stat:DELIVRD")) ≡ v.NotReceipt
  -- the message's own text, and what follows an octet that is no space, says nothing
  pub own_text : reading_of_text (codes "id:1 TEXT: stat:DELIVRD") ≡ v.NoState
  pub a_tab : reading_of_text (codes "id:1" ++ 9 ∷ codes "stat:DELIVRD") ≡ v.NoState
  -- an id may have any octets but a space
  pub a_comma : reading_of_text (codes "id:a,b stat:DELIVRD") ≡ receipt_reading (codes "a,b") Delivered Unstated None
  pub a_line_feed : reading_of_text (codes "id:a" ++ 10 ∷ codes "b stat:DELIVRD")
      ≡ receipt_reading (codes "a" ++ 10 ∷ codes "b") Delivered Unstated None
  -- a usable parameter comes before the text
  pub id_beside : reading_of
      (record (deliver_saying 0x04 (codes "id:1 stat:DELIVRD")) { receipted_message_id = Some (55 ∷ 0 ∷ []) })
      ≡ receipt_reading (codes "7") Delivered Unstated None
  pub code_beside : reading_of
      (record (deliver_saying 0x04 (codes "id:1 stat:UNDELIV err:027")) { network_error_code = Some (3 ∷ 0 ∷ 8 ∷ []) })
      ≡ receipt_reading (codes "1") Undeliverable (Network 3 8) None
  -- short_message comes before message_payload, and a parameter that isn't usable leaves it to the text
  pub payload_beside : reading_of
      (record (deliver_saying 0x04 (codes "id:1 stat:DELIVRD")) { message_payload = Some (codes "id:2") })
      ≡ receipt_reading (codes "1") Delivered Unstated None
  pub unusable_id : reading_of
      (record (deliver_saying 0x04 (codes "id:1 stat:DELIVRD")) { receipted_message_id = Some [] })
      ≡ receipt_reading (codes "1") Delivered Unstated None
  pub unusable_state : reading_of
      (record (deliver_saying 0x04 (codes "id:1 stat:DELIVRD")) { message_state = Some (9 ∷ []) })
      ≡ receipt_reading (codes "1") Delivered Unstated None
  pub unusable_code : reading_of
      (record (deliver_saying 0x04 (codes "id:1 stat:UNDELIV err:027")) { network_error_code = Some (0 ∷ 8 ∷ []) })
      ≡ receipt_reading (codes "1") Undeliverable (Text (codes "027")) None
