use Rattle.std.proofs.Common.{List, ℕ, sym, ◌∙◌, subst, arith}
use Rattle.std.proofs.Math.Seq.{take-length}
use Rattle.smq_receipt.specs.within.Offsets.{IsReadFrom}
use Rattle.smq_receipt.proofs.Offsets.{header_whole}
use Rattle.smq_receipt.proofs.text.values_in.Goals as goal

pub returns : goal.returns
returns c =
    let P : List ℕ → Type 0 = λ header. IsReadFrom header c.values_by-2.result in
    subst P (take-length c.args.text.now ∙ sym (header_whole c.args.text.now (λ k l. c.loop-end.invariant.0 k (omega arith)))) c.values_by-2.ensures
