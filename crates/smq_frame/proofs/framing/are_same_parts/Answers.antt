use Rattle.std.proofs.Common.{◌≡◌, nat_eq, true, refl, sym, ◌∙◌}
use Rattle.std.specs.Prelude.{◌&&◌}
use Rattle.std.specs.Cmp.Lexicographic.{pointwise}
use Rattle.smq_frame.proofs.RestTests.{pointwise-parts}
use Rattle.smq_frame.proofs.framing.are_same_parts.Goals.{then-eq, else-eq}
use Rattle.smq_frame.proofs.framing.are_same_parts.Goals as goal

pub returns-then-eq-2 : goal.returns-then-eq-2
returns-then-eq-2 c =
    let all = pointwise-parts _ _ _ c.args.shorter.now _ _ _ _ c.split_at.ensures.by_index.0 c.split_at-2.ensures.by_index.0
    c.split_at.ensures.front_len c.split_at-2.ensures.front_len in
    let fronts : (pointwise nat_eq c.args.settled.now c.split_at.result.0.now
    && pointwise nat_eq c.split_at-2.result.0.now c.split_at.result.1.now) ≡ true = sym (elim c.if-eq.branch [
      | then-eq w ↦ rw (sym c.eq.ensures ∙ w.if-eq.true) (sym c.if-eq-2.true ∙ w.value-is ∙ w.eq-then-eq.ensures)
      | else-eq w ↦ rw (sym c.eq.ensures ∙ w.if-eq.false) (sym c.if-eq-2.true ∙ w.value-is ∙ w.if-eq.false)
    ]) in
    rw (all, fronts) c.eq-then-eq-2.ensures

pub returns-else-eq-2 : goal.returns-else-eq-2
returns-else-eq-2 c =
    let all = pointwise-parts _ _ _ c.args.shorter.now _ _ _ _ c.split_at.ensures.by_index.0 c.split_at-2.ensures.by_index.0
    c.split_at.ensures.front_len c.split_at-2.ensures.front_len in
    let fronts : c.if-eq.value ≡ (pointwise nat_eq c.args.settled.now c.split_at.result.0.now
    && pointwise nat_eq c.split_at-2.result.0.now c.split_at.result.1.now) = elim c.if-eq.branch [
      | then-eq w ↦ rw (sym c.eq.ensures ∙ w.if-eq.true) (w.value-is ∙ w.eq-then-eq.ensures)
      | else-eq w ↦ rw (sym c.eq.ensures ∙ w.if-eq.false) (w.value-is ∙ w.if-eq.false)
    ] in
    rw (all, ← fronts, c.if-eq-2.false) refl
