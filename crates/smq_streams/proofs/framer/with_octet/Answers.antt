use Rattle.std.proofs.Common.{◌≡◌, refl, true, false, ◌∷◌, ◌++◌, [], arith, subst, sym, ◌∙◌}
use Rattle.smq_streams.specs.Header.{IsLength}
use Rattle.smq_streams.proofs.Framing.{lengthens, states}
use Rattle.smq_streams.proofs.framer.with_octet.Goals as goal

pub returns-then-count-lt3 : goal.returns-then-count-lt3
returns-then-count-lt3 c rest w = lengthens rest _ _ _ (omega arith) c.if-count-lt3.true w

pub returns-then-is_length : goal.returns-then-is_length
returns-then-is_length c rest w =
    let s = states rest c.args.count c.args.number c.args.octet (omega arith) c.if-count-lt3.false w in
    let good = c.if-is_length.ensures.0 refl in
    (omega (arith, s.0), subst IsLength s.1 good, omega (arith, s.0, s.1, good.low))

pub returns-else-is_length : goal.returns-else-is_length
returns-else-is_length c rest w =
    let s = states rest c.args.count c.args.number c.args.octet (omega arith) c.if-count-lt3.false w in
    (omega (arith, s.0), λ good. absurd (let t : false ≡ true = c.if-is_length.ensures.1 (subst IsLength (sym s.1) good) in cc))
