use Rattle.std.proofs.Common.{◌-◌, length}
use Rattle.smq_tally.specs.Rows.{views, view_rank}
use Rattle.smq_tally.proofs.counts.+recount_from.Given as goal

abbrev pub decreases-recount_from : goal.decreases-recount_from
decreases-recount_from l = length views - view_rank l.view
