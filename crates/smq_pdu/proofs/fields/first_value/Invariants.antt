-- The parameters that were passed have other tags.
use Rattle.std.proofs.Common.{◌≡◌, length}
use Rattle.smq_pdu.specs.Parameters.{first_value}
use Rattle.smq_pdu.specs.Readers.{tlvs_of}
use Rattle.smq_pdu.proofs.fields.first_value.Given as goal

abbrev pub invariant-loop-tlv : goal.invariant-loop-tlv
invariant-loop-tlv l = first_value l.tag (tlvs_of l.rest) ≡ first_value l.tag (tlvs_of l.octets)

abbrev pub decreases-loop-tlv : goal.decreases-loop-tlv
decreases-loop-tlv l = length l.rest
