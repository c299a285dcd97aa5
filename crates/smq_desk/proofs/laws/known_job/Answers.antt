use Rattle.smq_desk.proofs.WrittenOut as written
use Rattle.smq_desk.proofs.laws.known_job.Goals as goal

pub returns-clause-puts : goal.returns-clause-puts
returns-clause-puts c = written.known_puts

pub returns-clause-rows : goal.returns-clause-rows
returns-clause-rows c = written.known_rows

pub returns-clause-job : goal.returns-clause-job
returns-clause-job c = written.known_job
