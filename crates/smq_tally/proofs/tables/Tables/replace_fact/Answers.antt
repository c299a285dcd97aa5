use Rattle.std.proofs.Common.{Some, arith, ap}
use Rattle.smq_tally.specs.within.Counting.{count_in}
use Rattle.smq_tally.specs.within.Kept.{counts_in}
use Rattle.smq_tally.proofs.Recounts.{room-for}
use Rattle.smq_tally.proofs.tables.Tables.replace_fact.Goals as goal

pub recount-requires-clause-room : goal.recount-requires-clause-room
recount-requires-clause-room c =
    room-for (counts_in c.self.inside.counts.content) (Some c.args.after.now)
    (λ key. omega (arith, ap (λ t. count_in t.shown.counts key) c.self.view_is, c.requires.room key))
