use Rattle.std.proofs.Common.{refl}
use Rattle.smq_pdu.specs.Pairing.{nth_index}
use Rattle.smq_pdu.proofs.laws.known_pairs.Goals as goal

pub returns-clause-first_response : goal.returns-clause-first_response
unfolding nth_index
returns-clause-first_response c = refl

pub returns-clause-second_response : goal.returns-clause-second_response
unfolding nth_index
returns-clause-second_response c = refl

pub returns-clause-no_third_response : goal.returns-clause-no_third_response
unfolding nth_index
returns-clause-no_third_response c = refl

pub returns-clause-nack : goal.returns-clause-nack
unfolding nth_index
returns-clause-nack c = refl
