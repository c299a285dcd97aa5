use Rattle.std.proofs.Common.{◌<◌, ◌^◌, Bool, sym, subst, arith}
use Rattle.std.proofs.lemmas.Bool.{le-leb, leb-true}
use Rattle.smq_capture.specs.Ended.{IsOf}
use Rattle.smq_capture.proofs.Steps.{of_among, to_among}
use Rattle.smq_capture.proofs.ended.is_of.Goals as goal

pub returns : goal.returns
returns c =
    let e = c.behind-second.ensures in
    let p : c.args.span.first < 2 ^ 32 = omega arith in
    let q : c.behind-second.result < 2 ^ 32 = omega (arith, e) in
    let P : Bool → Type 0 = λ b. IsOf c.args.span c.args.sequence c.args.length b in (
      λ t. subst P (sym c.if-is_syn.false)
          (to_among c.args.span c.args.sequence c.args.length c.behind-second.result p q e (leb-true _ _ t)),
      λ r. le-leb _ _ (of_among c.args.span c.args.sequence c.args.length c.behind-second.result p e (subst P c.if-is_syn.false r)),
    )
