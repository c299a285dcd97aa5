use Rattle.std.proofs.Common.{rules}
use Rattle.std.specs.List.Sorted.{IsStrictlySortedBy}
use Rattle.smq_tally.proofs.laws.values_are_in_order.Goals as goal

pub returns-clause-known : goal.returns-clause-known
unfolding IsStrictlySortedBy
returns-clause-known c = λ link. search rules
