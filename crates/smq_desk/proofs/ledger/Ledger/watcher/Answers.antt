use Rattle.smq_desk.proofs.BoardSteps.{admits}
use Rattle.smq_desk.proofs.ledger.Ledger.watcher.Goals as goal

pub reader-requires : goal.reader-requires
reader-requires c = admits
