use Rattle.std.proofs.Common.{◌≡◌, ◌+◌, ◌∷◌, length, ap, arith, add-one}
use Rattle.std.specs.Vec.Iter.{into_iter_items}
use Rattle.smq_engine.proofs.PlayLemmas.{present-step, refused-step}
use Rattle.smq_engine.proofs.play.play_rows.Goals as goal

pub loop-row-preserved : goal.loop-row-preserved
loop-row-preserved g c =
    let now = g.B.PlayedBook.present c.loop-row.book in
    let then = g.B.PlayedBook.present c.play_next.new.book in
    let next : into_iter_items c.loop-row.row-iterator ≡ c.in-Some.row ∷ into_iter_items c.next.new.self = c.in-Some.ensures.steps.0 in
    record {
      present = present-step now c.in-Some.row (into_iter_items c.next.new.self)
          (into_iter_items c.loop-row.row-iterator) then _ next c.in_ok-play_next.ensures.present
          c.loop-row.invariant.present;
      refused = refused-step now c.in-Some.row (into_iter_items c.next.new.self)
          (into_iter_items c.loop-row.row-iterator) then c.loop-row.number (c.loop-row.number + 1)
          c.loop-row.refused.items c.play_next.new.refused.items _ next c.in_ok-play_next.ensures.present (add-one c.loop-row.number)
          c.in_ok-play_next.ensures.noted c.loop-row.invariant.refused;
      numbered = omega (arith, ap length next, c.loop-row.invariant.numbered);
    }
