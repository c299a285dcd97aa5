use Rattle.std.proofs.Common.{refl}
use Rattle.smq_capture.proofs.Runs.{parts-are}
use Rattle.smq_capture.proofs.waiting.Waiting.parts.Goals as goal

pub returns : goal.returns
returns c =
    rw (c.as_slice.ensures.value, c.as_slice-2.ensures.value, ← c.self.view_is)
    (parts-are _ c.self.inside.runs.items c.self.inside.settled refl c.self.invariant)
