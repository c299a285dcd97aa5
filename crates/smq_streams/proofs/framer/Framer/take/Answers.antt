use Rattle.std.proofs.Common.{◌≡◌, ◌+◌, ◌-◌, ◌++◌, ◌≤◌, ℕ, length, take, arith, length-take, subst, List, sym}
use Rattle.std.proofs.lemmas.List.{take_all}
use Rattle.smq_streams.specs.declared.framer.Framer.{Framer}
use Rattle.smq_streams.specs.declared.framer.Framer.TheVariants.{Broken, Left}
use Rattle.smq_streams.specs.Framing.{IsFramed}
use Rattle.smq_streams.proofs.Framing.{framed-more, broken-more, left-more, framed-end}
use Rattle.smq_streams.proofs.framer.Framer.take.Goals as goal

pub returns-in-Broken-clause-takes : goal.returns-in-Broken-clause-takes
returns-in-Broken-clause-takes c before f =
    let all : take (length c.args.octets.now) c.args.octets.now ≡ c.args.octets.now = take_all _ _ (omega arith) in
    let g : IsFramed before Broken = subst (λ (x : Framer). IsFramed before x) c.in-Broken.is f in
    rw (all, c.in-Broken.is) (framed-more before c.args.octets.now Broken Broken (broken-more c.args.octets.now) g)

pub returns-then-length-left-clause-takes : goal.returns-then-length-left-clause-takes
returns-then-length-left-clause-takes c before f =
    let all : take (length c.args.octets.now) c.args.octets.now ≡ c.args.octets.now = take_all _ _ (omega arith) in
    let g : IsFramed before (Left c.in-Left.left) = subst (λ (x : Framer). IsFramed before x) c.in-Left.is f in
    let next : Framer = Left (c.in-Left.left - length c.args.octets.now) in
    subst (λ (o : List ℕ). IsFramed (before ++ o) next) (sym all)
    (framed-more before c.args.octets.now (Left c.in-Left.left) next (λ rest w. left-more c.in-Left.left c.args.octets.now rest c.if-length-left.true w) g)

pub returns-else-length-left-clause-takes : goal.returns-else-length-left-clause-takes
returns-else-length-left-clause-takes c before f =
    let g : IsFramed before (Left c.in-Left.left) = subst (λ (x : Framer). IsFramed before x) c.in-Left.is f in
    let size : length (take (c.in-Left.left + 1) c.args.octets.now) ≡ c.in-Left.left + 1 = omega (arith, length-take (c.in-Left.left + 1) c.args.octets.now, c.if-length-left.false) in
    framed-end before (take (c.in-Left.left + 1) c.args.octets.now) c.in-Left.left c.new.result size c.new.ensures.none g
