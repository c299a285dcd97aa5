use Rattle.std.proofs.Common.{◌<◌, ◌^◌, ◌++◌, ◌∷◌, ℕ, List, [], append-nil, append_assoc, length, ap, sym, subst, ◌∙◌, arith}
use Rattle.std.proofs.lemmas.List.{length-append}
use Rattle.smq_present.specs.join.Lines.{MessageLineValue}
use Rattle.smq_count.specs.Counts.{counts_of}
use Rattle.smq_engine.proofs.output.counts_of.Goals as goal

pub loop-line-init : goal.loop-line-init
loop-line-init c = record {
  counted = [];
  counts = c.new-counts.ensures c.args.counting.now;
  all = c.into_iter-line-iterator.ensures.into_iter_gives ∙ c.in_ok-lines.ensures.all;
  few = subst (λ (n : ℕ). n < 2 ^ 63) (ap length c.in_ok-lines.ensures.all) c.in_ok-lines.ensures.few;
}

pub add-requires : goal.add-requires
add-requires c =
    let counted = c.loop-line.invariant.counted in
    let left = c.loop-line.line-iterator in
    let few : length counted < 2 ^ 63 = omega (arith, length-append counted left, ap length c.loop-line.invariant.all, c.loop-line.invariant.few) in
    record { few = (counted, c.loop-line.invariant.counts, few) }

pub loop-line-preserved : goal.loop-line-preserved
loop-line-preserved c =
    let counted = c.loop-line.invariant.counted in
    let line = c.in-Some.line in
    record {
      counted = counted ++ line ∷ [];
      counts = c.in_ok-add.ensures.ok counted c.loop-line.invariant.counts;
      all = append_assoc counted (line ∷ []) c.next.new.self
          ∙ ap (λ (left : List MessageLineValue). counted ++ left) (sym c.in-Some.ensures.steps) ∙ c.loop-line.invariant.all;
      few = c.loop-line.invariant.few;
    }

pub returns : goal.returns
returns c =
    let counted = c.loop-line.invariant.counted in
    let all = sym (append-nil counted) ∙ ap (λ (left : List MessageLineValue). counted ++ left) (sym c.in-None.ensures.steps.0)
    ∙ c.loop-line.invariant.all in
    c.loop-line.invariant.counts ∙ ap (counts_of c.args.counting.now) all
