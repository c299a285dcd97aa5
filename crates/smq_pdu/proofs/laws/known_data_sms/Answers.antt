use Rattle.std.proofs.Common.{refl}
use Rattle.smq_pdu.specs.Header.{word_at}
use Rattle.smq_pdu.specs.Numbers.{digits_of, number_of}
use Rattle.smq_pdu.specs.Pdu.{body_of, submit_of, deliver_of, data_sm_of, id_of}
use Rattle.smq_pdu.specs.Readers.{data_sm_fields_at, address_at, c_octet_at, octets_at, number_at, tlv_at, tlvs_within, tlvs_of}
use Rattle.smq_pdu.specs.Sources.{source_in}
use Rattle.smq_pdu.proofs.laws.known_data_sms.Goals as goal

pub returns-clause-message : goal.returns-clause-message
unfolding word_at body_of submit_of deliver_of data_sm_of id_of number_of digits_of source_in data_sm_fields_at address_at c_octet_at octets_at
    number_at tlv_at tlvs_within tlvs_of
returns-clause-message c = refl

pub returns-clause-response : goal.returns-clause-response
unfolding word_at body_of submit_of deliver_of data_sm_of id_of number_of digits_of data_sm_fields_at address_at c_octet_at octets_at
    number_at tlv_at tlvs_within tlvs_of
returns-clause-response c = refl

pub returns-clause-receipt : goal.returns-clause-receipt
unfolding word_at body_of submit_of deliver_of data_sm_of id_of number_of digits_of source_in data_sm_fields_at address_at c_octet_at octets_at
    number_at tlv_at tlvs_within tlvs_of
returns-clause-receipt c = refl

pub returns-clause-cut : goal.returns-clause-cut
unfolding word_at body_of submit_of deliver_of data_sm_of id_of number_of digits_of data_sm_fields_at address_at c_octet_at octets_at
    number_at tlv_at tlvs_within tlvs_of
returns-clause-cut c = refl

pub returns-clause-each_field : goal.returns-clause-each_field
unfolding word_at body_of submit_of deliver_of data_sm_of id_of number_of digits_of source_in data_sm_fields_at address_at c_octet_at octets_at
    number_at tlv_at tlvs_within tlvs_of
returns-clause-each_field c = refl
