use Rattle.std.proofs.Common.{rules}
use Rattle.std.specs.List.Sorted.{IsStrictlySortedBy}
use Rattle.smq_tally.proofs.CountOrders.{count_key-order, count_keys_exact, rows-sorted}
use Rattle.smq_tally.proofs.laws.rows_are_in_order.Goals as goal

pub returns-clause-rows : goal.returns-clause-rows
returns-clause-rows c = rows-sorted

pub returns-clause-order : goal.returns-clause-order
returns-clause-order c = λ a b i. count_key-order i a b

pub returns-clause-exact : goal.returns-clause-exact
returns-clause-exact c = count_keys_exact

pub returns-clause-known : goal.returns-clause-known
unfolding IsStrictlySortedBy
returns-clause-known c = search rules
