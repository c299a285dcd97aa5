-- Touches don't fall, and where a fact changes they rise, whatever comes in turn.
use Rattle.std.proofs.Common.{◌≡◌, ◌≤◌, ◌∙◌, arith}
use Rattle.smq_book.specs.declared.index.index.Index.{Index}
use Rattle.smq_book.specs.index.Touches.{RisesWithFacts}

pub both-rise : (i j k : Index) → RisesWithFacts i j → RisesWithFacts j k → RisesWithFacts i k
both-rise i j k a b =
    let x = a.counted in
    let y = b.counted in
    record {
      counted = omega (arith, x, y);
      facts = λ touches low.
          b.facts (omega (arith, x, y, touches)) (omega (arith, x, y, touches, low)) ∙ a.facts (omega (arith, x, y, touches)) low;
    }
