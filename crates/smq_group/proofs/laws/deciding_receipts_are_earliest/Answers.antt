use Rattle.smq_group.proofs.MatchingLemmas.{earliest, none-can}
use Rattle.smq_group.proofs.laws.deciding_receipts_are_earliest.Goals as goal

pub returns-clause-found : goal.returns-clause-found
returns-clause-found c = earliest

pub returns-clause-none : goal.returns-clause-none
returns-clause-none c = none-can
