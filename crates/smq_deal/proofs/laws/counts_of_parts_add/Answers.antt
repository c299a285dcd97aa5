use Rattle.smq_deal.proofs.PartsAdd.{counts-add, lists-add}
use Rattle.smq_deal.proofs.laws.counts_of_parts_add.Goals as goal

pub returns-clause-counts : goal.returns-clause-counts
returns-clause-counts c = counts-add

pub returns-clause-lists : goal.returns-clause-lists
returns-clause-lists c = lists-add
