use Rattle.smq_capture.proofs.KnownTops.{known_tops}
use Rattle.smq_capture.proofs.laws.known_tops.Goals as goal

pub returns : goal.returns
returns c = known_tops
