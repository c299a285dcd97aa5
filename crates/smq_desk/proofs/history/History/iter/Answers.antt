use Rattle.smq_desk.proofs.EntriesLeft.{in_order}
use Rattle.smq_desk.proofs.history.History.iter.Goals as goal

pub returns-clause-runs : goal.returns-clause-runs
returns-clause-runs c = in_order
