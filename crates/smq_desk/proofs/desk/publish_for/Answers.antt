use Rattle.std.proofs.Common.{inr, refl}
use Rattle.smq_desk.proofs.desk.publish_for.Goals as goal

pub returns-in-Some-clause-refused : goal.returns-in-Some-clause-refused
returns-in-Some-clause-refused g c = inr (c.torn_call.ensures.legal, (c.in-Some.number, refl, c.in-Some.ensures.some))
