use Rattle.std.proofs.Common.{sym, ◌∙◌, subst, refl}
use Rattle.smq_reassembly.specs.State.{State, Follows}
use Rattle.smq_reassembly.proofs.Chains.{head-at, head-before}
use Rattle.smq_reassembly.proofs.States.{begins-anew}
use Rattle.smq_reassembly.proofs.reassembly.Reassembly.skip_gap.Goals as goal

pub invariant_of-self : goal.invariant_of-self
invariant_of-self c =
    let h = head-at _ _ _ c.self.invariant.1 (sym c.in_ok-place.ensures) in (h.1, h.2)

pub returns-clause-some : goal.returns-clause-some
returns-clause-some c pieces start given f =
    let h = head-at _ _ _ c.self.invariant.1 (sym c.in_ok-place.ensures) in
    let g = subst (λ (s : State). Follows pieces start given s) (sym c.self.view_is) f in
    rw (← c.self.view_is) (
      record {
        order = h.0;
        none = λ n low high. sym (g.waits n low) ∙ head-before _ _ _ n c.self.invariant.1 (sym c.in_ok-place.ensures) high;
        some = rw (sym (g.waits c.in_ok-place.place h.0) ∙ h.3.1) refl;
      },
      begins-anew pieces start given _ c.in_ok-place.place g h.0,
    )
