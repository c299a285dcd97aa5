use Rattle.smq_group.proofs.Storing.{none-stored}
use Rattle.smq_group.proofs.groups.Groups.new.Goals as goal

pub invariant_of-result : goal.invariant_of-result
invariant_of-result c = (
  rw (c.new.ensures.content, c.new-2.ensures.content, c.new-3.ensures.content, c.new-4.ensures.content) none-stored,
  rw (c.new.ensures.settled, c.new-2.ensures.settled, c.new-3.ensures.settled, c.new-4.ensures.settled) none-stored,
)
