use Rattle.smq_desk.proofs.BoardSteps.{looks}
use Rattle.smq_desk.proofs.board.look.Goals as goal

pub enter_as-requires : goal.enter_as-requires
enter_as-requires c x = looks _ _ x
