use Rattle.smq_desk.proofs.OpeningTables.{opens}
use Rattle.smq_desk.proofs.published_history.PublishedHistory.opening.Goals as goal

pub invariant_of-shared : goal.invariant_of-shared
invariant_of-shared c = opens c.new-history.result.entries c.in_ok-tables.tables.shown c.new-history.ensures c.in_ok-tables.ensures.shown
