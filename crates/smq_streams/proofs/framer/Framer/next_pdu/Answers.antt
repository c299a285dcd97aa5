use Rattle.std.proofs.Common.{◌≡◌, ◌++◌, ℕ, [], List, arith, append-nil, subst, sym}
use Rattle.smq_streams.specs.declared.framer.Framer.{Framer}
use Rattle.smq_streams.specs.declared.framer.Framer.TheVariants.{Left}
use Rattle.smq_streams.specs.Framing.{IsUnderWay}
use Rattle.smq_streams.proofs.Framing.{left-next}
use Rattle.smq_streams.proofs.framer.Framer.next_pdu.Goals as goal

pub returns-in-Left-clause-behind : goal.returns-in-Left-clause-behind
returns-in-Left-clause-behind c rest w other =
    let l : IsUnderWay rest (Left c.in-Left.left) = subst (λ (x : Framer). IsUnderWay rest x) c.in-Left.is w in
    left-next rest c.args.octets.now 0 c.in-Left.left c.behind.result (omega (arith, l.0)) (omega arith)
    (subst (λ (o : List ℕ). IsUnderWay o (Left c.in-Left.left)) (sym (append-nil rest)) l) c.behind.ensures
