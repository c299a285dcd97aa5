use Rattle.std.proofs.Common.{List, ◌++◌, sym, ap, ◌∙◌, subst, arith}
use Rattle.std.proofs.lemmas.List.{append-nil, drop_all}
use Rattle.smq_present.specs.within.Lists.{receipts_of, submits_of}
use Rattle.smq_scratch.specs.declared.receipts.NumberedReceipt.{NumberedReceipt}
use Rattle.smq_scratch.specs.within.Groups.{lines_kept}
use Rattle.smq_scratch.specs.within.Joined.{HasReceipts}
use Rattle.smq_scratch.proofs.Grouped.{lines-kept}
use Rattle.smq_scratch.proofs.received.receipt_lines.Goals as goal

pub returns : goal.returns
returns c =
    let p = c.args.present.now in
    let joined = c.in_ok-joined.joined in
    let groups = c.as_slice-groups.result.now in
    let receipts = c.as_slice-receipts.result.now in
    let made = c.loop-receipt.made.items in
    let has : HasReceipts p groups receipts =
    subst (λ gs. HasReceipts p gs receipts) (sym c.as_slice-groups.ensures.value)
    (subst (λ rs. HasReceipts p joined.groups.items rs) (sym c.as_slice-receipts.ensures.value) c.in_ok-joined.ensures.receipts) in
    sym (append-nil made)
    ∙ ap (λ (rs : List NumberedReceipt). made ++ lines_kept groups rs)
    (sym (drop_all c.loop-receipt.receipt-index receipts (omega (arith, c.loop-receipt-test.false))))
    ∙ c.loop-receipt.invariant
    ∙ lines-kept groups (submits_of p) (receipts_of p) (receipts_of p) receipts has
