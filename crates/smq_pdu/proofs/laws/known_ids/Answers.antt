use Rattle.std.proofs.Common.{refl}
use Rattle.smq_pdu.specs.Pdu.{id_of}
use Rattle.smq_pdu.proofs.laws.known_ids.Goals as goal

pub returns-clause-longest : goal.returns-clause-longest
unfolding id_of
returns-clause-longest c = refl

pub returns-clause-too_long : goal.returns-clause-too_long
unfolding id_of
returns-clause-too_long c = refl

pub returns-clause-no_zero : goal.returns-clause-no_zero
unfolding id_of
returns-clause-no_zero c = refl

pub returns-clause-to_the_first_zero : goal.returns-clause-to_the_first_zero
unfolding id_of
returns-clause-to_the_first_zero c = refl

pub returns-clause-zero_first : goal.returns-clause-zero_first
unfolding id_of
returns-clause-zero_first c = refl

pub returns-clause-no_body : goal.returns-clause-no_body
unfolding id_of
returns-clause-no_body c = refl
