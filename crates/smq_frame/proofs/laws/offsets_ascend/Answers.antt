use Rattle.smq_frame.proofs.Offsets.{frames_follow, frames_apart}
use Rattle.smq_frame.proofs.laws.offsets_ascend.Goals as goal

pub returns-clause-follow : goal.returns-clause-follow
returns-clause-follow c = frames_follow

pub returns-clause-apart : goal.returns-clause-apart
returns-clause-apart c = frames_apart
