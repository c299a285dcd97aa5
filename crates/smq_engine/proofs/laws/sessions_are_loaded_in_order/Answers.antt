use Rattle.smq_engine.proofs.SessionLemmas.{loaded_in_order}
use Rattle.smq_engine.proofs.laws.sessions_are_loaded_in_order.Goals as goal

pub returns : goal.returns
returns c = loaded_in_order
