use Rattle.smq_window.proofs.Recent.{finds_its_pair}
use Rattle.smq_window.proofs.laws.pairs_are_not_cut.Goals as goal

pub returns-clause-found : goal.returns-clause-found
returns-clause-found c = finds_its_pair
