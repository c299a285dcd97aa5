use Rattle.smq_group.specs.within.Walked.{members_in}
use Rattle.smq_group.proofs.Counting.{known-by_place}
use Rattle.smq_group.proofs.changes.tell_each_submit.Goals as goal

pub returns-in-Some-clause-by_place : goal.returns-in-Some-clause-by_place
returns-in-Some-clause-by_place c = known-by_place c.args.only (members_in c.args.key.now c.args.submits.now.content) c.in-Some.place c.requires.only c.in-Some.is
