use Rattle.std.proofs.Common.{◌+◌, ◌*◌, vec_len}
use Rattle.smq_desk.proofs.load.+halving.Given as goal

abbrev pub decreases-both : goal.decreases-both
decreases-both g l = 8 * (vec_len l.front + vec_len l.back) + 6

abbrev pub decreases-both-scope-spawn_with : goal.decreases-both-scope-spawn_with
decreases-both-scope-spawn_with g l = 8 * vec_len l.back + 8

abbrev pub decreases-both-scope : goal.decreases-both-scope
decreases-both-scope g l = 8 * (vec_len l.front + vec_len l.back) + 4

abbrev pub decreases-spread : goal.decreases-spread
decreases-spread g l = 8 * vec_len l.jobs + 7
