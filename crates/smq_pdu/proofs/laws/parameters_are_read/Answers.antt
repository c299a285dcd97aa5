use Rattle.std.proofs.Common.{arith}
use Rattle.smq_frame.proofs.Octets.{octets_by_place}
use Rattle.smq_pdu.proofs.Parameters.{parameters_stand, parameters_again, no_tlv}
use Rattle.smq_pdu.proofs.laws.parameters_are_read.Goals as goal

pub returns-clause-found : goal.returns-clause-found
returns-clause-found c = parameters_stand c.args.octets.now (octets_by_place c.args.octets.now (λ i. omega (arith, c.type_inv.octets i)))

pub returns-clause-unique : goal.returns-clause-unique
returns-clause-unique c = parameters_again

pub returns-clause-none : goal.returns-clause-none
returns-clause-none c = no_tlv c.args.octets.now (octets_by_place c.args.octets.now (λ i. omega (arith, c.type_inv.octets i)))
