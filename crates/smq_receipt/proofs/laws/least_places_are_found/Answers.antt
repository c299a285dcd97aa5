use Rattle.smq_receipt.proofs.LeastPlaces.{finds_the_least}
use Rattle.smq_receipt.proofs.laws.least_places_are_found.Goals as goal

pub returns : goal.returns
returns c = finds_the_least
