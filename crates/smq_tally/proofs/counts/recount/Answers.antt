use Rattle.std.specs.Option.{option_copied}
use Rattle.smq_tally.specs.declared.view.View.TheVariants as v
use Rattle.smq_tally.specs.within.Counting.{keys_left}
use Rattle.smq_tally.specs.within.Kept.{counts_in}
use Rattle.smq_tally.proofs.Recounts.{moved-steps}
use Rattle.smq_tally.proofs.RowCounts.{has-counts}
use Rattle.smq_tally.proofs.counts.recount.Goals as goal

pub returns-clause-ok : goal.returns-clause-ok
returns-clause-ok c =
    moved-steps (counts_in c.args.counts.now.content) (counts_in c.recount_from.new.counts.content) (keys_left v.Link (option_copied c.args.before))
    (keys_left v.Link (option_copied c.args.after)) (has-counts c.args.counts.now.content) (has-counts c.recount_from.new.counts.content)
    c.requires.counted c.in_ok-recount_from.ensures.ok
