use Rattle.smq_tally.specs.within.Kept.{counts_in}
use Rattle.smq_tally.specs.within.Keys.{outcomes}
use Rattle.std.proofs.Common.{refl, sym}
use Rattle.smq_tally.proofs.RowMoves.{moved-nowhere}
use Rattle.smq_tally.proofs.counts.count_instead.Goals as goal

pub returns-then-eq-clause-ok : goal.returns-then-eq-clause-ok
returns-then-eq-clause-ok c =
    moved-nowhere (counts_in c.args.counts.now.content) c.args.view c.args.before.now c.args.after.now
    (c.if-have_same_value.ensures.0 refl)
    ((outcomes c.args.before.now.outcome c.args.after.now.outcome).0 (sym c.if-eq.ensures))
