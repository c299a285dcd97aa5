use Rattle.std.proofs.Common.{◌≡◌, ℕ, Some, None, refl, ap, arith}
use Rattle.std.specs.Prelude.{sum}
use Rattle.smq_pdu.specs.Bodies.{BodyValue, SubmitBody, SubmitAnswerBody, DeliverBody, DataSmBody, OtherBody, UndecodableBody}
use Rattle.smq_pdu.specs.Header.{word_at}
use Rattle.smq_pdu.specs.Numbers.{digits_of, number_of}
use Rattle.smq_pdu.specs.Pdu.{PduValue, body_of, submit_of, deliver_of, id_of}
use Rattle.smq_pdu.specs.Readers.{mandatory_at, address_at, c_octet_at, octets_at, number_at, tlv_at, tlvs_within, tlvs_of}
use Rattle.smq_pdu.specs.Sources.{source_in}
use Rattle.smq_pdu.proofs.laws.known_pdus.Goals as goal

-- the sum of the octets of a submit_sm's number
abbrev octet_sum : BodyValue → ℕ
octet_sum (SubmitBody submit) = elim submit.number [ None ↦ 0 | Some digits ↦ sum digits ]
octet_sum (SubmitAnswerBody id) = 0
octet_sum (DeliverBody deliver) = 0
octet_sum (DataSmBody message) = 0
octet_sum OtherBody = 0
octet_sum UndecodableBody = 0

pub returns-clause-submit : goal.returns-clause-submit
unfolding word_at body_of submit_of deliver_of id_of number_of digits_of source_in mandatory_at address_at c_octet_at octets_at number_at
    tlv_at tlvs_within tlvs_of
returns-clause-submit c = refl

pub returns-clause-response : goal.returns-clause-response
unfolding word_at body_of submit_of deliver_of id_of mandatory_at address_at c_octet_at octets_at number_at tlv_at tlvs_within tlvs_of
returns-clause-response c = refl

pub returns-clause-receipt : goal.returns-clause-receipt
unfolding word_at body_of submit_of deliver_of id_of mandatory_at address_at c_octet_at octets_at number_at tlv_at tlvs_within tlvs_of
returns-clause-receipt c = refl

pub returns-clause-cut : goal.returns-clause-cut
unfolding word_at body_of submit_of deliver_of id_of mandatory_at address_at c_octet_at octets_at number_at tlv_at tlvs_within tlvs_of
returns-clause-cut c = refl

pub returns-clause-nack : goal.returns-clause-nack
unfolding word_at body_of submit_of deliver_of id_of mandatory_at address_at c_octet_at octets_at number_at tlv_at tlvs_within tlvs_of
returns-clause-nack c = refl

pub returns-clause-parameters : goal.returns-clause-parameters
unfolding word_at body_of submit_of deliver_of id_of mandatory_at address_at c_octet_at octets_at number_at tlv_at tlvs_within tlvs_of
returns-clause-parameters c = refl

pub returns-clause-plus : goal.returns-clause-plus
unfolding word_at body_of submit_of deliver_of id_of number_of digits_of source_in mandatory_at address_at c_octet_at octets_at number_at
    tlv_at tlvs_within tlvs_of
returns-clause-plus c = refl

pub returns-clause-national : goal.returns-clause-national
unfolding word_at body_of submit_of deliver_of id_of number_of digits_of source_in mandatory_at address_at c_octet_at octets_at number_at
    tlv_at tlvs_within tlvs_of
returns-clause-national c = refl

pub returns-clause-too_long : goal.returns-clause-too_long
unfolding word_at body_of submit_of deliver_of id_of number_of digits_of source_in mandatory_at address_at c_octet_at octets_at number_at
    tlv_at tlvs_within tlvs_of
returns-clause-too_long c = refl

pub returns-clause-alphanumeric : goal.returns-clause-alphanumeric
unfolding word_at body_of submit_of deliver_of id_of number_of digits_of source_in mandatory_at address_at c_octet_at octets_at number_at
    tlv_at tlvs_within tlvs_of
returns-clause-alphanumeric c = refl

pub returns-clause-apart : goal.returns-clause-apart
unfolding word_at body_of submit_of deliver_of id_of number_of digits_of mandatory_at address_at c_octet_at octets_at number_at
    tlv_at tlvs_within tlvs_of
returns-clause-apart c = λ same. let differ : 613 ≡ 614 = ap (λ (p : PduValue). octet_sum p.body) same in omega (arith, differ)

pub returns-clause-words : goal.returns-clause-words
unfolding word_at body_of submit_of deliver_of id_of mandatory_at address_at c_octet_at octets_at number_at tlv_at tlvs_within tlvs_of
returns-clause-words c = refl
