use Rattle.smq_present.proofs.lemmas.join.Lapsing.{past-end, before-end}
use Rattle.smq_present.proofs.laws.join.messages_lapse_at_the_end_of_their_window.Goals as goal

pub returns-clause-lapsed : goal.returns-clause-lapsed
returns-clause-lapsed c = past-end

pub returns-clause-is_open : goal.returns-clause-is_open
returns-clause-is_open c = before-end
