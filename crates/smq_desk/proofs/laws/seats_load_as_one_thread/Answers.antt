use Rattle.smq_desk.proofs.LoadedFrom.{seats_load_as_one_thread}
use Rattle.smq_desk.proofs.laws.seats_load_as_one_thread.Goals as goal

pub returns : goal.returns
returns c = seats_load_as_one_thread
