use Rattle.std.proofs.Common.{◌≡◌, None, refl, sym, ap, ◌∙◌, arith, Some, true}
use Rattle.std.specs.Prelude.{is_some}
use Rattle.std.specs.FinMap.{get}
use Rattle.smq_group.specs.declared.changes.Added.TheVariants as put
use Rattle.smq_group.specs.declared.member.ReceiptFacts.{ReceiptFacts}
use Rattle.smq_group.specs.declared.group_summary.Group.{Group}
use Rattle.smq_group.specs.declared.group_summary.More.TheVariants as newcomer
use Rattle.smq_group.specs.declared.group_summary.GroupSummary.{GroupSummary}
use Rattle.smq_group.specs.Groups.{GroupsValue, key_on}
use Rattle.smq_group.specs.within.Outlooks.{group_with, later_candidate, outlook_at}
use Rattle.smq_group.specs.within.Stored.{earliest_at, grouping_in, with_waiting}
use Rattle.smq_group.proofs.Calling.{tells-call, receipts-back, candidates-back}
use Rattle.smq_group.proofs.Counting.{counted, received-add, roomy}
use Rattle.smq_group.proofs.Moving.{moves-receipt}
use Rattle.smq_group.proofs.StoringReceipts.{receipt-more, receipt-stored, has-more}
use Rattle.smq_group.specs.within.Walked.{member_key, vacant_of}
use Rattle.smq_group.proofs.Vacating.{candidate-put, counted-vacant, member-put}
use Rattle.smq_group.proofs.groups.Groups.add_receipt.Goals as goal

pub standing_changes-requires-clause-counted : goal.standing_changes-requires-clause-counted
standing_changes-requires-clause-counted c =
    ap (λ (x : Group). x.outlook.matches) c.with-after.ensures
    ∙ counted c.self.inside.submits.content c.self.inside.receipts.content c.self.inside.candidates.content c.self.inside.outlooks.content c.new-key.result c.in_ok-before.before.outlook c.self.invariant.0 (ap (λ (x : Group). x.outlook) c.in_ok-before.ensures.value)

pub standing_changes-requires-clause-received : goal.standing_changes-requires-clause-received
standing_changes-requires-clause-received c =
    let said : ReceiptFacts = record { moment = c.args.moment; decides = c.args.decides } in
    let none : get (grouping_in c.self.inside.submits.content c.self.inside.receipts.content).receipts c.args.place ≡ None = ap (λ (v : GroupsValue). get v.members.receipts c.args.place) c.self.view_is ∙ c.requires.absent in
    let count = received-add c.self.inside.submits.content c.self.inside.receipts.content c.self.inside.candidates.content c.self.inside.outlooks.content c.new-key.result c.in_ok-before.before.outlook c.self.invariant.0 (ap (λ (x : Group). x.outlook) c.in_ok-before.ensures.value) c.args.place said c.put_receipt-put.new.receipts.content none c.in-Ok.ensures.receipts in
    ap (λ (x : Group). x.outlook.receipts) c.with-after.ensures ∙ roomy c.new-key.result c.in_ok-before.before.outlook.receipts c.place_count-places.result c.put_receipt-put.new.receipts.places c.put_receipt-put.new.receipts.content (count) c.place_count-places.ensures.content c.place_count-places.ensures.count c.place_count-places.ensures.small ∙ count

pub invariant_of-self-in_default : goal.invariant_of-self-in_default
invariant_of-self-in_default c =
    let back : c.take_back.new.self.content ≡ c.self.inside.outlooks.content = c.take_back.ensures.content c.self.inside.outlooks.places c.self.inside.outlooks.past c.in_ok-before.ensures.past ∙ sym c.in_ok-before.ensures.shown in (
      rw (c.in_default.ensures.err, c.in_default.ensures.err_candidates, back) c.self.invariant.0,
      rw (c.in_default.ensures.settled, c.in_default.ensures.settled_candidates, c.take_back.ensures.settled, c.in_ok-before.ensures.settled) c.self.invariant.1,
    )

pub invariant_of-self-in-Ok-standing_changes : goal.invariant_of-self-in-Ok-standing_changes
invariant_of-self-in-Ok-standing_changes c =
    let key = c.new-key.result in
    let said : ReceiptFacts = record { moment = c.args.moment; decides = c.args.decides } in
    let none : get (grouping_in c.self.inside.submits.content c.self.inside.receipts.content).receipts c.args.place ≡ None = ap (λ (v : GroupsValue). get v.members.receipts c.args.place) c.self.view_is ∙ c.requires.absent in
    let room = roomy c.new-key.result (outlook_at c.new-key.result c.self.inside.outlooks.content).receipts c.place_count-places.result c.put_receipt-put.new.receipts.places c.put_receipt-put.new.receipts.content (received-add c.self.inside.submits.content c.self.inside.receipts.content c.self.inside.candidates.content c.self.inside.outlooks.content c.new-key.result (outlook_at c.new-key.result c.self.inside.outlooks.content) c.self.invariant.0 refl c.args.place said c.put_receipt-put.new.receipts.content none c.in-Ok.ensures.receipts) c.place_count-places.ensures.content c.place_count-places.ensures.count c.place_count-places.ensures.small in (
      rw (c.in-Ok-standing_changes.ensures.submits.content, c.in-Ok-standing_changes.ensures.receipts.content, c.in-Ok.ensures.receipts)
          (receipt-stored c.self.inside.submits.content c.self.inside.receipts.content c.self.inside.candidates.content c.put_receipt-put.new.candidates.content c.self.inside.outlooks.content c.put_more.new.outlooks.content key c.args.place said
          none c.self.invariant.0 (c.in-Ok.ensures.candidates ∙ ap (λ w. with_waiting key w true c.self.inside.candidates.content) (c.later_candidate-waits.ensures ∙ ap (λ (o : GroupSummary). later_candidate o.decider (earliest_at (c.args.moment, c.args.place)) c.args.decides) (ap (λ (x : Group). x.outlook) c.in_ok-before.ensures.value)))
          room c.in_ok-before.ensures.here c.in_ok-before.ensures.elsewhere),
      rw (c.in-Ok-standing_changes.ensures.submits.settled, c.in-Ok-standing_changes.ensures.receipts.settled, c.in-Ok.ensures.settled, c.in-Ok.ensures.settled_candidates, c.in_ok-before.ensures.settled) c.self.invariant.1,
    )

pub returns-in-Ok-standing_changes-clause-ok : goal.returns-in-Ok-standing_changes-clause-ok
returns-in-Ok-standing_changes-clause-ok c =
    let said : ReceiptFacts = record { moment = c.args.moment; decides = c.args.decides } in
    let none : get (grouping_in c.self.inside.submits.content c.self.inside.receipts.content).receipts c.args.place ≡ None = ap (λ (v : GroupsValue). get v.members.receipts c.args.place) c.self.view_is ∙ c.requires.absent in
    rw (← c.new-key.ensures, ← c.self.view_is, c.in-Ok-standing_changes.ensures.submits.content, c.in-Ok-standing_changes.ensures.receipts.content, c.in-Ok.ensures.receipts)
    (receipt-more c.self.inside.submits.content c.self.inside.receipts.content c.self.inside.candidates.content c.self.inside.candidates.content c.self.inside.outlooks.content c.self.inside.outlooks.content c.new-key.result c.args.place said none)

pub returns-in-Ok-standing_changes-clause-changes : goal.returns-in-Ok-standing_changes-clause-changes
returns-in-Ok-standing_changes-clause-changes c =
    let key = c.new-key.result in
    let said : ReceiptFacts = record { moment = c.args.moment; decides = c.args.decides } in
    let none : get (grouping_in c.self.inside.submits.content c.self.inside.receipts.content).receipts c.args.place ≡ None = ap (λ (v : GroupsValue). get v.members.receipts c.args.place) c.self.view_is ∙ c.requires.absent in
    let s = c.self.inside.submits.content in
    let r = c.self.inside.receipts.content in
    let i = c.self.inside.candidates.content in
    let o = c.self.inside.outlooks.content in
    let more = has-more s r i i o o key c.args.place said none in
    rw (← c.self.view_is, c.in-Ok-standing_changes.ensures.submits.content)
    (tells-call (grouping_in s r) s s c.standing_changes.new.receipts.content c.put_receipt-put.new.receipts.content c.put_receipt-put.new.candidates.content c.put_more.new.outlooks.content key (put.Receipt c.args.place c.args.decides) c.in_ok-before.before.outlook c.with-after.result.outlook c.in-Ok-standing_changes.changes.items
    refl c.in-Ok-standing_changes.ensures.receipts.content
    (rw (c.in-Ok-standing_changes.ensures.receipts.content, c.in-Ok.ensures.receipts) (moves-receipt (grouping_in s r) _ c.args.place (record { key = key; moment = c.args.moment; decides = c.args.decides }) refl more))
    (rw c.in-Ok-standing_changes.ensures.submits.content at (invariant_of-self-in-Ok-standing_changes c).0)
    ((ap (λ (x : Group). x.outlook) c.in_ok-before.ensures.value) ∙ c.self.invariant.0.indexed.outlook key) (ap (λ (x : Group). x.outlook) (c.in_ok-before.ensures.here ∙ sym (c.with-after.ensures ∙ ap (λ (x : Group). group_with x (newcomer.Receipt (earliest_at (c.args.moment, c.args.place)) c.args.decides)) c.in_ok-before.ensures.value))) c.in-Ok-standing_changes.ensures.told c.in-Ok-standing_changes.ensures.submits_by_place c.in-Ok-standing_changes.ensures.receipts_by_place)

pub invariant_of-self-in-Err : goal.invariant_of-self-in-Err
invariant_of-self-in-Err c =
    let receipts = receipts-back (is_some c.later_candidate-waits.result) c.self.inside.receipts c.put_receipt-put.new.receipts c.standing_changes.new.receipts c.self.inside.candidates c.put_receipt-put.new.candidates c.take_back_receipt.new.receipts.content c.in-Ok.ensures.back c.in-Err.ensures.receipts.past c.take_back_receipt.ensures.receipts in
    let candidates = candidates-back (is_some c.later_candidate-waits.result) c.self.inside.receipts c.put_receipt-put.new.receipts c.self.inside.candidates c.put_receipt-put.new.candidates c.put_receipt-put.new.candidates c.take_back_receipt.new.candidates.content c.in-Ok.ensures.back refl refl c.take_back_receipt.ensures.candidates c.take_back_receipt.ensures.unchanged in
    let outlooks : c.take_back-in-Err.new.self.content ≡ c.self.inside.outlooks.content = c.take_back-in-Err.ensures.content c.self.inside.outlooks.places c.self.inside.outlooks.past c.in_ok-before.ensures.past ∙ sym c.in_ok-before.ensures.shown in (
      rw (c.in-Err.ensures.submits.content, receipts, candidates, outlooks) c.self.invariant.0,
      rw (c.in-Err.ensures.submits.settled, c.take_back_receipt.ensures.settled, c.in-Err.ensures.receipts.settled, c.in-Ok.ensures.settled, c.take_back_receipt.ensures.settled_candidates, c.in-Ok.ensures.settled_candidates, c.take_back-in-Err.ensures.settled, c.in_ok-before.ensures.settled) c.self.invariant.1,
    )

pub returns-in-Ok-standing_changes-clause-touches : goal.returns-in-Ok-standing_changes-clause-touches
returns-in-Ok-standing_changes-clause-touches c =
    let key = c.new-key.result in
    let said : ReceiptFacts = record { moment = c.args.moment; decides = c.args.decides } in
    let was = counted-vacant (key_on c.args.link c.args.key) c.self.inside.submits.places c.self.inside.receipts.places c.self.inside.candidates.places in
    let filled = member-put key (key_on c.args.link c.args.key) c.args.place (Some said) c.self.inside.receipts.places c.put_receipt-put.new.receipts.places c.in-Ok.ensures.places in
    let more = c.put_more.ensures.touches in
    let set = c.in-Ok.ensures.touches in
    let told = rw c.new-key.ensures at c.in-Ok-standing_changes.ensures.touches in
    rw (← c.self.view_is) (omega (arith, was, filled, more, set, told))

pub returns-in-Ok-standing_changes-clause-vacant : goal.returns-in-Ok-standing_changes-clause-vacant
returns-in-Ok-standing_changes-clause-vacant c = λ k.
    let key = c.new-key.result in
    let said : ReceiptFacts = record { moment = c.args.moment; decides = c.args.decides } in
    let was = counted-vacant k c.self.inside.submits.places c.self.inside.receipts.places c.self.inside.candidates.places in
    let is = counted-vacant k c.standing_changes.new.submits.places c.standing_changes.new.receipts.places c.put_receipt-put.new.candidates.places in
    let filled = member-put key k c.args.place (Some said) c.self.inside.receipts.places c.standing_changes.new.receipts.places (c.in-Ok-standing_changes.ensures.receipts.places ∙ c.in-Ok.ensures.places) in
    let candidate = candidate-put key k c.args.place c.later_candidate-waits.result (Some true) c.self.inside.candidates.places c.put_receipt-put.new.candidates.places c.in-Ok.ensures.candidate_places in
    let same = ap (vacant_of member_key k) c.in-Ok-standing_changes.ensures.submits.places in
    rw (← c.self.view_is) (omega (arith, was, is, filled, candidate, same))
