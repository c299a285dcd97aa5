use Rattle.smq_present.proofs.lemmas.join.Lapsing.{lapsed, others, same}
use Rattle.smq_present.proofs.laws.join.clock_lapses_open_messages_alone.Goals as goal

pub returns-clause-lapsed : goal.returns-clause-lapsed
returns-clause-lapsed c = lapsed

pub returns-clause-others : goal.returns-clause-others
returns-clause-others c = others

pub returns-clause-same : goal.returns-clause-same
returns-clause-same c = same
