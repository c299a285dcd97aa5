use Rattle.std.proofs.Common.{◌++◌, [], List, ap, sym, ◌∙◌, subst, take}
use Rattle.std.specs.List.{flat_map}
use Rattle.std.specs.Prelude.{option_to_list}
use Rattle.std.proofs.lemmas.List.{append-nil}
use Rattle.smq_present.specs.within.Receipts.{KeyedReceipt, receipts_among}
use Rattle.smq_present.specs.within.Sourced.{receipts_in}
use Rattle.smq_scratch.specs.declared.receipts.NumberedReceipt.{NumberedReceipt}
use Rattle.smq_scratch.specs.within.Groups.{AddsReceipts}
use Rattle.smq_scratch.proofs.Deciding.{key-of-receipt, receipts-more}
use Rattle.smq_scratch.proofs.Grouped.{adds-more, adds-none}
use Rattle.smq_scratch.proofs.groups.Groups.add_receipts.Goals as goal
use Rattle.smq_scratch.proofs.groups.Groups.add_receipts.Goals.{in-Some+in_ok-number+in_ok-push, in_default}

pub loop-view-init : goal.loop-view-init
loop-view-init c =
    subst (λ (made : List NumberedReceipt). AddsReceipts c.args.self.now c.args.self.now [] made) (sym c.new-made.ensures.items) (adds-none c.args.self.now c.requires)

pub loop-pdu-preserved : goal.loop-pdu-preserved
loop-pdu-preserved c =
    let before = flat_map receipts_in (take c.loop-view.view-index c.args.sessions.now) in
    let source = c.view.inside.source in
    let so_far = before ++ receipts_among source (take c.loop-pdu.pdu-index c.pdus-pdu-items.result.now) in
    subst (λ (ys : List KeyedReceipt). AddsReceipts c.args.self.now c.match-receipt_at.self ys c.match-receipt_at.made.items)
    (receipts-more source c.pdus-pdu-items.result.now c.loop-pdu.pdu-index c.pdu-item.result c.receipt_at.result before c.loop-pdu-test.true
    c.pdu-item.is c.receipt_at.ensures)
    (elim c.match-receipt_at.branch [
      | in-Some+in_ok-number+in_ok-push w ↦
          let one : KeyedReceipt = (w.in-Some.key, w.in-Some.receipt) in
          let made : NumberedReceipt = record { receipt = w.in-Some.receipt; form = source.forms.receipt; number = w.in_ok-number.number } in
          rw (w.in-Some.is, w.self-is, w.made-is, w.in_ok-push.ensures.items)
          (adds-more c.args.self.now c.loop-pdu.self w.add_receipt.new.self so_far c.loop-pdu.made.items w.in-Some.key made
          c.loop-pdu.invariant w.in_ok-number.ensures
          (key-of-receipt source c.pdu-item.result one (ap option_to_list (sym w.in-Some.is) ∙ c.receipt_at.ensures)))
      | in_default w ↦ rw (w.in_default.is, w.self-is, w.made-is, append-nil so_far) c.loop-pdu.invariant
    ])
