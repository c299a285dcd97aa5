use Rattle.smq_reassembly.proofs.Chains.{chain-apart}
use Rattle.smq_reassembly.proofs.reassembly.Reassembly.waiting_octets.Goals as goal

pub returns-clause-once : goal.returns-clause-once
returns-clause-once c = rw (← c.self.view_is) (chain-apart _ _ c.self.invariant.1)
