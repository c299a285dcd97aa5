use Rattle.smq_capture.proofs.CallsOfTops.{tell}
use Rattle.smq_capture.proofs.laws.tops_tell.Goals as goal

pub returns : goal.returns
returns c = tell
