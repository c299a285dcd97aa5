use Rattle.std.proofs.Common.{◌≡◌, ◌-◌, ◌<◌, ◌∙◌, Err, sym, rules, arith}
use Rattle.smq_packets.specs.Segments.{carried_by}
use Rattle.smq_packets.proofs.Carried.{carried_no_more}
use Rattle.smq_packets.proofs.segment.last_segment.Goals as goal

pub returns-in_err-layer-clause-err : goal.returns-in_err-layer-clause-err
returns-in_err-layer-clause-err c =
    let some : 0 < 32 - c.loop-passed.passed = omega arith in
    let other = sym c.if-is_last.ensures in
    let none : carried_by 32 c.args.frame.now c.args.first ≡ Err c.in_err-layer.field-0.0 =
    c.loop-passed.invariant ∙ carried_no_more _ _ _ _ some other (sym c.in_err-layer.ensures)
    in
    search (rules, none)
