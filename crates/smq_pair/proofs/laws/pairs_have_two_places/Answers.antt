use Rattle.smq_pair.proofs.Ranked.{has-two-places}
use Rattle.smq_pair.proofs.laws.pairs_have_two_places.Goals as goal

pub returns : goal.returns
returns c = has-two-places
