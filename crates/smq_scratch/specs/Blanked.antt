-- Which octets of a captured session may be others, so that what is kept of it stays.
use Rattle.std.specs.Prelude.{◌≡◌, ◌≢◌, ℕ, bit_and, List, [], ◌∷◌, take, length, codes, None}
use Rattle.std.specs.FinMap as map
use Rattle.smq_frame.specs.Framing.{Splits}
use Rattle.smq_frame.specs.Stream.{Octet, moments, values}
use Rattle.smq_pdu.specs.Bodies.{DeliverValue, IsBody, IsDataSmBody, data_sm_said, deliver_of_data_sm, deliver_said}
use Rattle.smq_pdu.specs.Commands.{data_sm, deliver_sm, submit_sm}
use Rattle.smq_pdu.specs.Fields.{DataSmFields, Mandatory}
use Rattle.smq_pdu.specs.Laws.{IsOther, body_at, command_at}
use Rattle.smq_pdu.specs.Numbers.{number_of}
use Rattle.smq_pdu.specs.Parameters.{Tlv}
use Rattle.smq_pdu.specs.Placed.{placed_pdu}
use Rattle.smq_receipt.specs.Readings.{text_of}
use Rattle.smq_receipt.specs.Texts.{header_of, value_of}
use Rattle.smq_present.specs.declared.present.kept.StoredPdu.{StoredPdu}
use Rattle.smq_present.specs.declared.present.session.Session.{Session}
use Rattle.smq_present.specs.present.Kept.{kept_pdu}
use Rattle.smq_present.specs.present.Present.{PresentValue}

-- what is kept of the PDU of some octets, at its offset and moment
abbrev pub kept_at : ℕ → ℕ → List ℕ → StoredPdu
kept_at offset moment octets = kept_pdu (placed_pdu (record { offset = offset; moment = moment; octets = octets }))

-- ---- delivery receipts

-- The message is no delivery receipt and no intermediate notification: not by bits 5 to 2 of esm_class (SMPP 3.4, 5.2.12), nor by
-- receipted_message_id (5.3.2.12). Its text and its other parameters say nothing.
pub record IsNoReceipt (d : DeliverValue) : Type 0 where
  pub no_receipt : bit_and d.esm_class 0x3C ≢ 0x04
  pub no_notification : bit_and d.esm_class 0x3C ≢ 0x20
  pub no_id : d.receipted_message_id ≡ None

-- Two texts give five names the same values (appendix B), each where it stands first. All else in them is free, as are the texts of
-- other names.
pub record HaveSameValues (text other : List ℕ) : Type 0 where
  pub id : value_of (codes "id:") text ≡ value_of (codes "id:") other
  pub state : value_of (codes "stat:") text ≡ value_of (codes "stat:") other
  pub error : value_of (codes "err:") text ≡ value_of (codes "err:") other
  pub submit_date : value_of (codes "submit date:") text ≡ value_of (codes "submit date:") other
  pub done_date : value_of (codes "done date:") text ≡ value_of (codes "done date:") other

-- Two messages are delivery receipts of one kind, if any, with the same first values of three parameters (5.3.2.12, 5.3.2.31,
-- 5.3.2.35) and the same values in their texts before ` text:`. What follows there is free, and so is message_payload beside a
-- short_message.
pub record AreSameReceipt (d e : DeliverValue) : Type 0 where
  pub kind : bit_and d.esm_class 0x3C ≡ bit_and e.esm_class 0x3C
  pub receipted_message_id : d.receipted_message_id ≡ e.receipted_message_id
  pub network_error_code : d.network_error_code ≡ e.network_error_code
  pub message_state : d.message_state ≡ e.message_state
  pub text : HaveSameValues (header_of (text_of d)) (header_of (text_of e))

-- Two messages are the same receipt, or none is one.
pub data AreReadAlikeAsReceipts (d e : DeliverValue) : Type 0 where
  NoReceipts : IsNoReceipt d → IsNoReceipt e → AreReadAlikeAsReceipts d e
  SameReceipt : AreSameReceipt d e → AreReadAlikeAsReceipts d e

-- ---- bodies

-- Two bodies of submit_sm (4.4.1) have the same source address, numbers of destination and registered_delivery. Free are
-- service_type, source_addr_npi, the form of the destination's number, esm_class, protocol_id, priority_flag, both times,
-- replace_if_present_flag, data_coding, sm_default_msg_id, short_message, all parameters, and what follows these.
pub record AreSubmitsAlike (body other : List ℕ) : Type 0 where
  pub fields : Mandatory
  pub tlvs : List Tlv
  pub rest : List ℕ
  pub other_fields : Mandatory
  pub other_tlvs : List Tlv
  pub other_rest : List ℕ
  pub is_body : IsBody body fields tlvs rest
  pub is_other : IsBody other other_fields other_tlvs other_rest
  pub source_ton : fields.source.ton ≡ other_fields.source.ton
  pub source : fields.source.text ≡ other_fields.source.text
  pub number : number_of fields.destination ≡ number_of other_fields.destination
  pub registered_delivery : fields.registered_delivery ≡ other_fields.registered_delivery

-- Two bodies of deliver_sm (4.6.1) are read alike as receipts. All that isn't read of these is free, as both addresses.
pub record AreDeliversAlike (body other : List ℕ) : Type 0 where
  pub fields : Mandatory
  pub tlvs : List Tlv
  pub rest : List ℕ
  pub other_fields : Mandatory
  pub other_tlvs : List Tlv
  pub other_rest : List ℕ
  pub is_body : IsBody body fields tlvs rest
  pub is_other : IsBody other other_fields other_tlvs other_rest
  pub receipts : AreReadAlikeAsReceipts (deliver_said fields tlvs) (deliver_said other_fields other_tlvs)

-- what a data_sm with these fields and parameters says as a deliver_sm does
abbrev pub delivered : DataSmFields → List Tlv → DeliverValue
delivered fields tlvs = deliver_of_data_sm (data_sm_said fields None tlvs)

-- Two bodies of data_sm (4.7.1) are alike as those of submit_sm are, and as those of deliver_sm are.
pub record AreDataSmsAlike (body other : List ℕ) : Type 0 where
  pub fields : DataSmFields
  pub tlvs : List Tlv
  pub rest : List ℕ
  pub other_fields : DataSmFields
  pub other_tlvs : List Tlv
  pub other_rest : List ℕ
  pub is_body : IsDataSmBody body fields tlvs rest
  pub is_other : IsDataSmBody other other_fields other_tlvs other_rest
  pub source_ton : fields.source.ton ≡ other_fields.source.ton
  pub source : fields.source.text ≡ other_fields.source.text
  pub number : number_of fields.destination ≡ number_of other_fields.destination
  pub registered_delivery : fields.registered_delivery ≡ other_fields.registered_delivery
  pub receipts : AreReadAlikeAsReceipts (delivered fields tlvs) (delivered other_fields other_tlvs)

-- ---- PDUs

-- Two PDUs of one header have bodies that are read alike: the same; of submit_sm, deliver_sm or data_sm; or any of another command
-- without a message id, such as a bind with its password (4.1).
pub data HaveBodiesAlike (one other : List ℕ) : Type 0 where
  SameBody : body_at one ≡ body_at other → HaveBodiesAlike one other
  Submits : command_at one ≡ submit_sm → AreSubmitsAlike (body_at one) (body_at other) → HaveBodiesAlike one other
  Delivers : command_at one ≡ deliver_sm → AreDeliversAlike (body_at one) (body_at other) → HaveBodiesAlike one other
  DataSms : command_at one ≡ data_sm → AreDataSmsAlike (body_at one) (body_at other) → HaveBodiesAlike one other
  Unread : IsOther one → HaveBodiesAlike one other

-- Two PDUs have the same header (3.2) and as many octets, and bodies that are read alike.
pub record AreReadAlike (one other : List ℕ) : Type 0 where
  pub header : take 16 one ≡ take 16 other
  pub len : length one ≡ length other
  pub bodies : HaveBodiesAlike one other

-- ---- streams

-- Each of some values stands so to the other of its place, and there are as many others.
abbrev pub OneByOne : {A : Type 0} → (A → A → Type 0) → List A → List A → Type 0
OneByOne Alike [] [] = Unit {0}
OneByOne Alike [] (y ∷ ys) = ⊥
OneByOne Alike (x ∷ xs) [] = ⊥
OneByOne Alike (x ∷ xs) (y ∷ ys) = Alike x y × OneByOne Alike xs ys

-- Two streams are frames (3), which are read alike one by one, and one rest; and their octets have the same moments.
pub record AreStreamsAlike (stream other : List Octet) : Type 0 where
  pub frames : List (List ℕ)
  pub other_frames : List (List ℕ)
  pub rest : List ℕ
  pub splits : Splits (values stream) frames rest
  pub other_splits : Splits (values other) other_frames rest
  pub alike : OneByOne AreReadAlike frames other_frames
  pub moments_are : moments stream ≡ moments other

-- ---- what is present

-- Two sessions have one number and one link, and streams that are alike.
pub record AreSessionsAlike (one other : ℕ × Session) : Type 0 where
  pub number : one.0 ≡ other.0
  pub link : one.1.link ≡ other.1.link
  pub client : AreStreamsAlike one.1.client other.1.client
  pub centre : AreStreamsAlike one.1.centre other.1.centre

-- The same is set, and the sessions are alike one by one.
pub record ArePresentAlike (one other : PresentValue) : Type 0 where
  pub settings : one.settings ≡ other.settings
  pub sessions : OneByOne AreSessionsAlike (map.entries one.sessions) (map.entries other.sessions)
