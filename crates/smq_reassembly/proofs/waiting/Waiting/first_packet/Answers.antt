use Rattle.std.proofs.Common.{sym}
use Rattle.smq_reassembly.proofs.Chains.{head-packet}
use Rattle.smq_reassembly.proofs.waiting.Waiting.first_packet.Goals as goal

pub returns : goal.returns
returns c = rw (← c.self.view_is) (sym (head-packet _ _ _ c.self.invariant.chain c.in_ok-held.ensures.first))
