use Rattle.std.proofs.Common.{refl}
use Rattle.smq_pdu.specs.Readers.{octets_at, number_at, tlv_at, tlvs_within, rest_within, tlvs_of, rest_of}
use Rattle.smq_pdu.proofs.laws.known_parameters.Goals as goal

pub returns-clause-tlvs : goal.returns-clause-tlvs
unfolding octets_at number_at tlv_at tlvs_within tlvs_of
returns-clause-tlvs c = refl

pub returns-clause-rest : goal.returns-clause-rest
unfolding octets_at number_at tlv_at rest_within rest_of
returns-clause-rest c = refl

pub returns-clause-long : goal.returns-clause-long
unfolding octets_at number_at tlv_at tlvs_within tlvs_of
returns-clause-long c = refl
