use Rattle.std.proofs.Common.{◌≡◌, arith, length, sym, ◌∙◌}
use Rattle.smq_reassembly.proofs.Chains.{head-place}
use Rattle.smq_reassembly.proofs.waiting.Waiting.first.Goals as goal

pub overflow_sub-result : goal.overflow_sub-result
overflow_sub-result c =
    let h = head-place _ _ c.self.invariant.chain c.in_ok-end.ensures.first in
    omega (arith, h.0, c.len.ensures, c.in_ok-end.held.now.octets.ok.0)

pub returns : goal.returns
returns c =
    let h = head-place _ _ c.self.invariant.chain c.in_ok-end.ensures.first in
    let size : c.len.result ≡ length c.in_ok-end.held.now.octets.items = c.len.ensures ∙ c.in_ok-end.held.now.octets.ok.0 in
    rw (size, ← c.self.view_is) (sym h.1)
