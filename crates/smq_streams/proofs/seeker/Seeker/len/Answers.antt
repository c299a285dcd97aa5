use Rattle.std.proofs.Common.{◌≡◌, ◌+◌, arith, length-drop}
use Rattle.smq_streams.proofs.Marks.{length-by}
use Rattle.smq_streams.proofs.seeker.Seeker.len.Goals as goal

pub returns : goal.returns
returns c =
    rw (← c.self.view_is)
    (omega (
      arith,
      c.len.ensures,
      c.self.inside.octets.ok.0,
      c.self.invariant.within,
      length-drop c.self.inside.looked c.self.inside.octets.items,
      length-by _ _ c.self.invariant.marked,
    ))
