use Rattle.std.proofs.Common.{◌≡◌, arith, length, ◌∙◌}
use Rattle.smq_reassembly.proofs.Chains.{kept-rest}
use Rattle.smq_reassembly.proofs.waiting.Waiting.take_at.Goals as goal

pub overflow_sub-self : goal.overflow_sub-self
overflow_sub-self c =
    let k = kept-rest _ _ _ _ c.self.invariant c.in_ok-end.ensures.removal in
    omega (arith, k.0, c.len.ensures, c.in_ok-end.held.octets.ok.0)

pub invariant_of-self-2 : goal.invariant_of-self-2
invariant_of-self-2 c =
    let k = kept-rest _ _ _ _ c.self.invariant c.in_ok-end.ensures.removal in
    let size : c.len.result ≡ length c.in_ok-end.held.octets.items = c.len.ensures ∙ c.in_ok-end.held.octets.ok.0 in
    rw size k.1
