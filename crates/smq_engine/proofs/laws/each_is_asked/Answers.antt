use Rattle.smq_engine.proofs.LawLemmas.{each-is-asked}
use Rattle.smq_engine.proofs.laws.each_is_asked.Goals as goal

pub returns : goal.returns
returns c = each-is-asked
