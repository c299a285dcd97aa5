use Rattle.smq_present.proofs.lemmas.join.MoveLemmas.{frame}
use Rattle.smq_present.proofs.laws.join.facts_rest_on_circumstances.Goals as goal

pub returns : goal.returns
returns c = frame
