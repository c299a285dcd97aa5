use Rattle.std.proofs.Common.{refl}
use Rattle.smq_pdu.specs.Sources.{source_in}
use Rattle.smq_pdu.proofs.laws.known_sources.Goals as goal

pub returns-clause-shortest : goal.returns-clause-shortest
unfolding source_in
returns-clause-shortest c = refl

pub returns-clause-empty : goal.returns-clause-empty
unfolding source_in
returns-clause-empty c = refl

pub returns-clause-longest : goal.returns-clause-longest
unfolding source_in
returns-clause-longest c = refl

pub returns-clause-too_long : goal.returns-clause-too_long
unfolding source_in
returns-clause-too_long c = refl
