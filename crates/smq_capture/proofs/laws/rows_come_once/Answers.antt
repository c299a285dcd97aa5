use Rattle.smq_capture.proofs.CallsOfRows.{come-once, octets-stay}
use Rattle.smq_capture.proofs.laws.rows_come_once.Goals as goal

pub returns-clause-rows : goal.returns-clause-rows
returns-clause-rows c = come-once

pub returns-clause-octets : goal.returns-clause-octets
returns-clause-octets c = octets-stay
