use Rattle.std.proofs.Common.{◌≡◌, ℕ, min, length, drop, true, arith, ap, ◌∙◌, List}
use Rattle.std.proofs.lemmas.List.{drop_min}
use Rattle.smq_reassembly.proofs.Lists.{length-octets}
use Rattle.smq_reassembly.proofs.States.{behind-same, behind-end}
use Rattle.smq_reassembly.proofs.reassembly.from_next.Goals as goal

rest : (k far : ℕ) (vs back : List ℕ) → k ≡ min (length vs) far → back ≡ drop k vs → back ≡ drop far vs
rest k far vs back count is =
    let less : k ≡ min far (length vs) = omega (arith, count) in
    is ∙ ap (λ (n : ℕ). drop n vs) less ∙ drop_min far vs

pub returns-in-Ahead-clause-end : goal.returns-in-Ahead-clause-end
returns-in-Ahead-clause-end c packet =
    rw c.in-Ahead.is (omega (arith, length-octets packet true c.args.octets.now))

pub returns-in-Behind-clause-same : goal.returns-in-Behind-clause-same
returns-in-Behind-clause-same c packet n low =
    rw (c.in-Behind.is, rest _ _ _ _ c.min-count.ensures c.split_at.ensures.back)
    (behind-same c.args.next c.in-Behind.far packet c.args.octets.now n (c.requires.some c.in-Behind.far c.in-Behind.is) low)

pub returns-in-Behind-clause-end : goal.returns-in-Behind-clause-end
returns-in-Behind-clause-end c packet =
    rw (c.in-Behind.is, rest _ _ _ _ c.min-count.ensures c.split_at.ensures.back)
    (behind-end c.args.next c.in-Behind.far packet c.args.octets.now)
