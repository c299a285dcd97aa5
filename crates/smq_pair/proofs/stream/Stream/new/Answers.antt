use Rattle.smq_pair.proofs.Held.{none-settled}
use Rattle.smq_pair.proofs.stream.Stream.new.Goals as goal

pub invariant_of-result : goal.invariant_of-result
invariant_of-result c = none-settled _ _ c.new.ensures.items c.new-2.ensures.items
