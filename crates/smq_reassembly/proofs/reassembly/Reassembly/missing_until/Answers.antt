use Rattle.std.proofs.Common.{◌≡◌, ◌≤◌, arith, sym, subst, refl}
use Rattle.smq_reassembly.specs.State.{State}
use Rattle.smq_reassembly.proofs.Chains.{head-at, head-before}
use Rattle.smq_reassembly.proofs.reassembly.Reassembly.missing_until.Goals as goal

pub returns-clause-low : goal.returns-clause-low
returns-clause-low c =
    let h = head-at _ _ _ c.self.invariant.1 (sym c.in-Some.ensures) in
    let low : c.self.inside.next ≤ c.args.end = subst (λ (s : State). s.next ≤ c.args.end) (sym c.self.view_is) c.requires in
    rw (← c.self.view_is) (omega (arith, h.0, low, c.min.ensures))

pub returns-clause-none : goal.returns-clause-none
returns-clause-none c n low high =
    rw (← c.self.view_is) (head-before _ _ _ n c.self.invariant.1 (sym c.in-Some.ensures) (omega (arith, c.min.ensures)))

pub returns-clause-full : goal.returns-clause-full
returns-clause-full c less =
    let same : c.min.result ≡ c.in-Some.first = omega (arith, c.min.ensures) in
    let h = head-at _ _ _ c.self.invariant.1 (sym c.in-Some.ensures) in
    rw (← c.self.view_is, same, h.3.1) refl
