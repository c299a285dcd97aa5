use Rattle.std.proofs.Common.{◌≡◌, List, ◌∙◌, subst}
use Rattle.smq_present.specs.within.Lists.{receipts_of, submits_of}
use Rattle.smq_present.specs.within.Messages.{SubmittedMessage}
use Rattle.smq_present.specs.within.Receipts.{KeyedReceipt}
use Rattle.smq_scratch.specs.within.Groups.{AddsReceipts, HasGroups, HasSubmits}
use Rattle.smq_scratch.proofs.Collected.{notes-present, receipts-present, submits-present}
use Rattle.smq_scratch.proofs.Grouped.{messages-are, numbers-later, receipts-are}
use Rattle.smq_scratch.proofs.joined.Joined.of_read.Goals as goal

pub returns : goal.returns
returns c = λ p is.
    let submits : c.in_ok-submits.field-0.submits.items ≡ submits_of p =
    c.in_ok-submits.ensures.submits ∙ submits-present p c.args.sessions.now c.args.read.items is c.requires in
    let before = c.in_ok-kept.kept in
    let kept = c.add_receipts.new.self in
    let numbers = c.in_ok-kept.numbers.items in
    let receipts = c.in_ok-receipts.receipts.items in
    let first : HasSubmits before (submits_of p) numbers =
    subst (λ (ms : List SubmittedMessage). HasSubmits before ms numbers) (c.as_slice.ensures.value ∙ submits) c.in_ok-kept.ensures in
    let adds : AddsReceipts before kept (receipts_of p) receipts =
    subst (λ (es : List KeyedReceipt). AddsReceipts before kept es receipts) (receipts-present p c.args.sessions.now is) c.in_ok-receipts.ensures in
    let has : HasGroups kept (submits_of p) (receipts_of p) = adds.groups (submits_of p) first.groups in
    record {
      submits = submits;
      notes = c.in_ok-submits.ensures.notes ∙ notes-present p c.args.sessions.now c.args.read.items is c.requires;
      numbers = messages-are kept (submits_of p) (receipts_of p) has (submits_of p) numbers
          (numbers-later before.keys.keys.items kept.keys.keys.items adds.stay (submits_of p) numbers first.numbers);
      receipts = receipts-are kept (submits_of p) (receipts_of p) has (receipts_of p) receipts adds.numbers;
    }
