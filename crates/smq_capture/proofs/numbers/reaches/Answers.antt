use Rattle.std.proofs.Common.{◌<◌, ◌^◌, arith}
use Rattle.std.proofs.lemmas.Bool.{le-leb, leb-true}
use Rattle.smq_capture.proofs.Steps.{of_reaches, to_reaches}
use Rattle.smq_capture.proofs.numbers.reaches.Goals as goal

pub returns : goal.returns
returns c =
    let p : c.args.from < 2 ^ 32 = omega (arith, c.ranges.from) in
    let q : c.args.sequence < 2 ^ 32 = omega (arith, c.ranges.sequence) in (
      λ t. to_reaches c.args.from c.args.sequence c.args.most p q (leb-true _ _ t),
      λ r. le-leb _ _ (of_reaches c.args.from c.args.sequence c.args.most p r),
    )
