use Rattle.smq_tally.proofs.Listings.{listed-iff}
use Rattle.smq_tally.proofs.laws.lists_are_in_order.Goals as goal

pub returns-clause-members : goal.returns-clause-members
returns-clause-members c = listed-iff
