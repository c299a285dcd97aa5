use Rattle.std.proofs.Common.{◌≡◌, ◌<◌, ◌++◌, ℕ, [], arith, subst, take, length}
use Rattle.smq_streams.specs.declared.framer.Framer.{Framer}
use Rattle.smq_streams.specs.declared.framer.Framer.TheVariants.{Left, Broken}
use Rattle.smq_streams.specs.Framing.{IsUnderWay}
use Rattle.smq_streams.proofs.Framing.{left-next, broken-next}
use Rattle.smq_streams.proofs.framer.first_behind.Goals as goal

pub returns-in-Left : goal.returns-in-Left
returns-in-Left c rest w =
    let l : IsUnderWay (rest ++ take c.loop-i.i c.args.octets.now) (Left c.in-Left.left) =
    subst (λ (x : Framer). IsUnderWay (rest ++ take c.loop-i.i c.args.octets.now) x) c.in-Left.is (c.loop-i.invariant rest w) in
    let some : 0 < length rest = omega (arith, w.0, c.if-count-eq0.false) in
    left-next rest c.args.octets.now c.loop-i.i c.in-Left.left c.behind.result some (omega arith) l c.behind.ensures

pub returns-in-Broken : goal.returns-in-Broken
returns-in-Broken c rest w =
    let l : IsUnderWay (rest ++ take c.loop-i.i c.args.octets.now) Broken =
    subst (λ (x : Framer). IsUnderWay (rest ++ take c.loop-i.i c.args.octets.now) x) c.in-Broken.is (c.loop-i.invariant rest w) in
    let some : 0 < length rest = omega (arith, w.0, c.if-count-eq0.false) in
    broken-next rest c.args.octets.now c.loop-i.i some l
