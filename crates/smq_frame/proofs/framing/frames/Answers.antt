use Rattle.smq_frame.proofs.Tails.{moments-placed, split_octets}
use Rattle.smq_frame.proofs.framing.frames.Goals as goal

pub returns-clause-stamped : goal.returns-clause-stamped
returns-clause-stamped c = rw c.in_ok-found.ensures.frames (moments-placed _ _ _)

pub returns-clause-split : goal.returns-clause-split
returns-clause-split c =
    λ _. rw (c.in_ok-found.ensures.frames, c.in_ok-octets.ensures, c.parts.ensures.whole) (split_octets _ _ _)
