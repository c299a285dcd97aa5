use Rattle.smq_present.proofs.lemmas.pairing.PairLemmas.{pair-stands}
use Rattle.smq_present.proofs.laws.pairing.responses_stand_in_pairs.Goals as goal

pub returns : goal.returns
returns c = pair-stands
