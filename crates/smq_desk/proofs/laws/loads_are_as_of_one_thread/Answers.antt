use Rattle.smq_desk.proofs.Loaded.{loads_are_as_of_one_thread}
use Rattle.smq_desk.proofs.laws.loads_are_as_of_one_thread.Goals as goal

pub returns : goal.returns
returns c = loads_are_as_of_one_thread
