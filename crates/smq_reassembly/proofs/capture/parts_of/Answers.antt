use Rattle.std.proofs.Common.{List, [], sym, subst}
use Rattle.std.proofs.lemmas.List.{take_more}
use Rattle.smq_reassembly.specs.declared.capture.Segment.{Segment}
use Rattle.smq_reassembly.specs.Capture.{AllCome}
use Rattle.smq_reassembly.proofs.Captures.{one-more, zero_start}
use Rattle.smq_reassembly.proofs.capture.parts_of.Goals as goal

pub loop-segment-preserved : goal.loop-segment-preserved
loop-segment-preserved c =
    let i = c.loop-segment.invariant in
    let m = c.in_ok-give.ensures i.0 i.3 i.2 in (
      m.0,
      subst (λ (ss : List Segment). AllCome c.args.first [] ss m.0) (sym (take_more c.args.segments.now c.loop-segment.segment-index _ c.loop-segment-test.true))
          (one-more c.args.first [] _ _ i.0 m.0 i.1 m.1),
      c.in_ok-give_waiting-2.ensures.follows m.0 zero_start m.2,
      c.in_ok-give_waiting-2.ensures.whole m.0 zero_start m.2,
    )
