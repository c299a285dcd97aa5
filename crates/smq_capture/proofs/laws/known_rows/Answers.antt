use Rattle.smq_capture.proofs.KnownRows.{known_rows}
use Rattle.smq_capture.proofs.laws.known_rows.Goals as goal

pub returns : goal.returns
returns c = known_rows
