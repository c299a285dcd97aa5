use Rattle.std.proofs.Common.{Some, None, sym, ◌∙◌}
use Rattle.smq_tally.proofs.RowCounts.{under-none}
use Rattle.smq_tally.proofs.RowMoves.{row-found}
use Rattle.smq_tally.proofs.counts.count_of.Goals as goal

pub returns-in-Some : goal.returns-in-Some
returns-in-Some c =
    c.under.ensures
    ∙ row-found c.args.counts.now.content c.args.key c.into_row.result (Some c.in-Some.row.now) c.into_row.ensures c.in-Some.ensures

pub returns-in-None : goal.returns-in-None
returns-in-None c =
    sym (under-none c.args.key.outcome)
    ∙ row-found c.args.counts.now.content c.args.key c.into_row.result None c.into_row.ensures c.in-None.ensures
