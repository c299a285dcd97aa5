use Rattle.smq_desk.proofs.Scheduled.{schedules_end}
use Rattle.smq_desk.proofs.laws.schedules_end_as_one_thread.Goals as goal

pub returns : goal.returns
returns c = schedules_end
