use Rattle.smq_tally.proofs.Standing.{open-listed, lapsed-listed, others-listed}
use Rattle.smq_tally.proofs.laws.open_and_lapsed_messages_are_listed.Goals as goal

pub returns-clause-open : goal.returns-clause-open
returns-clause-open c = open-listed

pub returns-clause-lapsed : goal.returns-clause-lapsed
returns-clause-lapsed c = lapsed-listed

pub returns-clause-others : goal.returns-clause-others
returns-clause-others c = others-listed
