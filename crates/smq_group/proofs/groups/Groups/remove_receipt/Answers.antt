use Rattle.std.proofs.Common.{◌≡◌, ◌-◌, ℕ, Bool, List, Option, Some, None, subst, refl, sym, ap, ◌∙◌, arith, cond}
use Rattle.std.specs.Prelude.{false, IfSome, is_some, option_map}
use Rattle.std.specs.List.Sorted.{IsStrictlySortedBy}
use Rattle.std.specs.Map.{keys_of, remove_entry}
use Rattle.std.specs.FinMap.{get}
use Rattle.smq_group.specs.declared.changes.Added.TheVariants as put
use Rattle.smq_group.specs.declared.member.Candidate.{Candidate}
use Rattle.smq_group.specs.declared.group_summary.Group.{Group}
use Rattle.smq_group.specs.declared.group_summary.GroupSummary.{GroupSummary}
use Rattle.smq_group.specs.Groups.{GroupsValue, key_on}
use Rattle.smq_group.specs.within.Outlooks.{an_outlook, group_at, is_decided_by}
use Rattle.smq_group.specs.within.Stored.{earliest_at, gone_of, grouping_in, receipt_value, with_waiting, without_waiting}
use Rattle.smq_group.proofs.Calling.{tells-call, receipts-back, candidates-back}
use Rattle.smq_group.proofs.Counting.{counted, only-stays, received-remove}
use Rattle.smq_group.proofs.Moving.{moves-no_receipt}
use Rattle.smq_group.proofs.StoringReceipts.{gone-there, has-less, has-next, receipt-held, receipt-is_held, receipt-less, receipt-taken}
use Rattle.std.specs.BTreeMap.{insert_entry, is_at}
use Rattle.smq_kit.specs.LinkKeys.{same_key}
use Rattle.smq_group.specs.within.Orders.{kept_candidate_cmp, kept_member_cmp}
use Rattle.smq_group.specs.within.Stored.{member_of}
use Rattle.smq_group.specs.within.Walked.{member_key, members_in, vacant_of}
use Rattle.smq_group.proofs.Vacating.{at_most_one, candidate-put, counted-vacant, member-put, twice}
use Rattle.smq_kit.specs.declared.link_key.LinkKey.{LinkKey}
use Rattle.smq_group.proofs.groups.Groups.remove_receipt.Goals as goal

if-some : {A : Type 0} (x : Option A) (P : A → Type 0) → ((e : A) → x ≡ Some e → P e) → IfSome x P
if-some None P f = tt
if-some (Some e) P f = f e refl

pub take_out_receipt-requires-clause-candidate : goal.take_out_receipt-requires-clause-candidate
take_out_receipt-requires-clause-candidate c =
    let key = c.key_of_link-key.result in
    let said = c.in-Some.said in
    let s = c.self.inside.submits.content in
    let r = c.self.inside.receipts.content in
    let i = c.self.inside.candidates.content in
    let o = c.self.inside.outlooks.content in
    let k = ap (λ (v : GroupsValue). option_map (λ x. x.key) (get v.members.receipts c.args.place)) c.self.view_is ∙ c.requires.there ∙ ap Some (sym c.key_of_link-key.ensures) in
    let found = sym c.receipt_facts_at-found.ensures.value ∙ c.in-Some.is in
    let there = receipt-held s r i i o o key c.args.place said said k found in
    let is = c.gone-gone.ensures ∙ ap (λ (x : GroupSummary). gone_of said.decides (is_decided_by x c.args.place) c.decider_without-decider.result (earliest_at (said.moment, c.args.place))) (ap (λ (x : Group). x.outlook) c.group_of-before.ensures.value) in
    if-some c.gone-gone.result _ (λ e h. rw c.decider_without-decider.ensures.read.content (gone-there s r i i o o key c.args.place said c.self.invariant.0 there found c.decider_without-decider.result (has-next s r i i o o key c.args.place said c.decider_without-decider.result c.group_of-before.result.outlook (ap (λ (x : Group). x.outlook) c.group_of-before.ensures.value) c.decider_without-decider.ensures.stays c.decider_without-decider.ensures.follows c.decider_without-decider.ensures.ordered) e (sym is ∙ h)))

pub returns-in_default : goal.returns-in_default
returns-in_default c =
    let key = c.key_of_link-key.result in
    let k = ap (λ (v : GroupsValue). option_map (λ x. x.key) (get v.members.receipts c.args.place)) c.self.view_is ∙ c.requires.there ∙ ap Some (sym c.key_of_link-key.ensures) in
    let held = receipt-is_held c.self.inside.submits.content c.self.inside.receipts.content c.self.inside.candidates.content c.self.inside.candidates.content c.self.inside.outlooks.content c.self.inside.outlooks.content key c.args.place (record { moment = 0; decides = false }) k in
    absurd (c.in_default.not-Some held.0 (c.receipt_facts_at-found.ensures.value ∙ held.1))

pub standing_changes_and_summary-requires-clause-counted : goal.standing_changes_and_summary-requires-clause-counted
standing_changes_and_summary-requires-clause-counted c =
    counted c.self.inside.submits.content c.self.inside.receipts.content c.self.inside.candidates.content c.self.inside.outlooks.content c.key_of_link-key.result c.group_of-before.result.outlook
    c.self.invariant.0 (ap (λ (x : Group). x.outlook) c.group_of-before.ensures.value)

pub overflow_sub-after : goal.overflow_sub-after
overflow_sub-after c =
    let key = c.key_of_link-key.result in
    let said = c.in-Some.said in
    let s = c.self.inside.submits.content in
    let r = c.self.inside.receipts.content in
    let i = c.self.inside.candidates.content in
    let o = c.self.inside.outlooks.content in
    let k = ap (λ (v : GroupsValue). option_map (λ x. x.key) (get v.members.receipts c.args.place)) c.self.view_is ∙ c.requires.there ∙ ap Some (sym c.key_of_link-key.ensures) in
    let found = sym c.receipt_facts_at-found.ensures.value ∙ c.in-Some.is in
    let there = receipt-held s r i i o o key c.args.place said said k found in
    let less = received-remove s r i o key c.group_of-before.result.outlook c.self.invariant.0 (ap (λ (x : Group). x.outlook) c.group_of-before.ensures.value) c.args.place said c.take_out_receipt.new.receipts.content there found
    (c.in_ok-take_out_receipt.ensures.receipts ∙ ap (remove_entry (is_at (kept_member_cmp (member_of key c.args.place)))) c.receipt_facts_at-found.ensures.read.content) in
    omega (arith, less)

pub standing_changes_and_summary-requires-clause-received : goal.standing_changes_and_summary-requires-clause-received
standing_changes_and_summary-requires-clause-received c =
    let key = c.key_of_link-key.result in
    let said = c.in-Some.said in
    let s = c.self.inside.submits.content in
    let r = c.self.inside.receipts.content in
    let i = c.self.inside.candidates.content in
    let o = c.self.inside.outlooks.content in
    let k = ap (λ (v : GroupsValue). option_map (λ x. x.key) (get v.members.receipts c.args.place)) c.self.view_is ∙ c.requires.there ∙ ap Some (sym c.key_of_link-key.ensures) in
    let found = sym c.receipt_facts_at-found.ensures.value ∙ c.in-Some.is in
    let there = receipt-held s r i i o o key c.args.place said said k found in
    let less = received-remove s r i o key c.group_of-before.result.outlook c.self.invariant.0 (ap (λ (x : Group). x.outlook) c.group_of-before.ensures.value) c.args.place said c.take_out_receipt.new.receipts.content there found
    (c.in_ok-take_out_receipt.ensures.receipts ∙ ap (remove_entry (is_at (kept_member_cmp (member_of key c.args.place)))) c.receipt_facts_at-found.ensures.read.content) in
    omega (arith, less)

pub invariant_of-self-in-Ok : goal.invariant_of-self-in-Ok
invariant_of-self-in-Ok c =
    let key = c.key_of_link-key.result in
    let place = c.args.place in
    let said = c.in-Some.said in
    let s = c.self.inside.submits.content in
    let r = c.self.inside.receipts.content in
    let i = c.self.inside.candidates.content in
    let o = c.self.inside.outlooks.content in
    let k = ap (λ (v : GroupsValue). option_map (λ x. x.key) (get v.members.receipts c.args.place)) c.self.view_is ∙ c.requires.there ∙ ap Some (sym c.key_of_link-key.ensures) in
    let found = sym c.receipt_facts_at-found.ensures.value ∙ c.in-Some.is in
    let there = receipt-held s r i i o o key place said said k found in
    let before = (ap (λ (x : Group). x.outlook) c.group_of-before.ensures.value) in
    let is = c.gone-gone.ensures ∙ ap (λ (x : GroupSummary). gone_of said.decides (is_decided_by x place) c.decider_without-decider.result (earliest_at (said.moment, place))) before in (
      rw (c.in-Ok.ensures.submits.content, c.in-Ok.ensures.receipts.content, c.in_ok-take_out_receipt.ensures.receipts, c.receipt_facts_at-found.ensures.read.content)
          (receipt-taken s r i c.take_out_receipt.new.candidates.content o c.standing_changes_and_summary.new.outlooks.content key place said c.self.invariant.0 there found c.decider_without-decider.result
          (has-next s r i c.take_out_receipt.new.candidates.content o c.standing_changes_and_summary.new.outlooks.content key place said c.decider_without-decider.result c.group_of-before.result.outlook before
          c.decider_without-decider.ensures.stays c.decider_without-decider.ensures.follows c.decider_without-decider.ensures.ordered)
          (c.in_ok-take_out_receipt.ensures.candidates ∙ (λ j. without_waiting key (is j) (c.decider_without-decider.ensures.read.content j)))
          (λ e. subst (λ (es : List (Candidate × Bool)). IsStrictlySortedBy kept_candidate_cmp (keys_of es)) c.decider_without-decider.ensures.read.content (c.in_ok-take_out_receipt.ensures.ordered (ap is_some is ∙ e)))
          ((ap (λ (x : Group). x.outlook) c.in-Ok.ensures.here) ∙ ap (λ (x : GroupSummary). an_outlook x.matches (x.receipts - 1) c.decider_without-decider.result) before)
          (ap (λ (x : Group). x.only) c.in-Ok.ensures.here ∙ only-stays c.group_of-before.result.only (members_in key s) c.group_of-before.result.outlook.matches c.in-Ok.changes.items
          (ap (λ (x : Group). x.only) c.group_of-before.ensures.value ∙ c.self.invariant.0.only key) (counted s r i o key c.group_of-before.result.outlook c.self.invariant.0 before))
          (λ other h. c.in-Ok.ensures.elsewhere other h ∙ ap (group_at other) c.group_of-before.ensures.content)),
      rw (c.in-Ok.ensures.submits.settled, c.in-Ok.ensures.receipts.settled, c.in_ok-take_out_receipt.ensures.settled, c.receipt_facts_at-found.ensures.read.settled, c.in_ok-take_out_receipt.ensures.settled_candidates, c.decider_without-decider.ensures.read.settled, c.in-Ok.ensures.settled, c.group_of-before.ensures.settled) c.self.invariant.1,
    )

pub returns-in-Ok-clause-ok : goal.returns-in-Ok-clause-ok
returns-in-Ok-clause-ok c =
    let i = c.self.inside.candidates.content in
    let o = c.self.inside.outlooks.content in
    rw (← c.self.view_is, c.in-Ok.ensures.submits.content, c.in-Ok.ensures.receipts.content, c.in_ok-take_out_receipt.ensures.receipts, c.receipt_facts_at-found.ensures.read.content)
    (receipt-less c.self.inside.submits.content c.self.inside.receipts.content i i o o c.key_of_link-key.result c.args.place c.in-Some.said c.self.invariant.0 (sym c.receipt_facts_at-found.ensures.value ∙ c.in-Some.is))

pub returns-in-Ok-clause-changes : goal.returns-in-Ok-clause-changes
returns-in-Ok-clause-changes c =
    let key = c.key_of_link-key.result in
    let place = c.args.place in
    let said = c.in-Some.said in
    let s = c.self.inside.submits.content in
    let r = c.self.inside.receipts.content in
    let i = c.self.inside.candidates.content in
    let o = c.self.inside.outlooks.content in
    let k = ap (λ (v : GroupsValue). option_map (λ x. x.key) (get v.members.receipts c.args.place)) c.self.view_is ∙ c.requires.there ∙ ap Some (sym c.key_of_link-key.ensures) in
    let found = sym c.receipt_facts_at-found.ensures.value ∙ c.in-Some.is in
    let there = receipt-held s r i i o o key place said said k found in
    let less = has-less s r i i o o key place said c.self.invariant.0 there found in
    rw (← c.self.view_is, c.in-Ok.ensures.submits.content)
    (tells-call (grouping_in s r) s s c.standing_changes_and_summary.new.receipts.content c.take_out_receipt.new.receipts.content c.take_out_receipt.new.candidates.content c.standing_changes_and_summary.new.outlooks.content key put.Nothing
    c.group_of-before.result.outlook (an_outlook c.group_of-before.result.outlook.matches (c.group_of-before.result.outlook.receipts - 1) c.decider_without-decider.result) c.in-Ok.changes.items
    refl c.in-Ok.ensures.receipts.content
    (rw (c.in-Ok.ensures.receipts.content, c.in_ok-take_out_receipt.ensures.receipts, c.receipt_facts_at-found.ensures.read.content) (moves-no_receipt (grouping_in s r) _ place (receipt_value key said) refl less))
    (rw c.in-Ok.ensures.submits.content at (invariant_of-self-in-Ok c).0)
    ((ap (λ (x : Group). x.outlook) c.group_of-before.ensures.value) ∙ c.self.invariant.0.indexed.outlook key) (ap (λ (x : Group). x.outlook) c.in-Ok.ensures.here) c.in-Ok.ensures.told c.in-Ok.ensures.submits_by_place c.in-Ok.ensures.receipts_by_place)

pub invariant_of-self-in-Err : goal.invariant_of-self-in-Err
invariant_of-self-in-Err c =
    let d = is_some c.gone-gone.result in
    let receipts = receipts-back d c.receipt_facts_at-found.new.receipts c.take_out_receipt.new.receipts c.standing_changes_and_summary.new.receipts c.decider_without-decider.new.candidates c.take_out_receipt.new.candidates c.take_back_receipt.new.receipts.content c.in_ok-take_out_receipt.ensures.back c.in-Err.ensures.receipts.past c.take_back_receipt.ensures.receipts ∙ c.receipt_facts_at-found.ensures.read.content in
    let candidates = candidates-back d c.receipt_facts_at-found.new.receipts c.take_out_receipt.new.receipts c.decider_without-decider.new.candidates c.take_out_receipt.new.candidates c.take_out_receipt.new.candidates c.take_back_receipt.new.candidates.content c.in_ok-take_out_receipt.ensures.back
    refl refl c.take_back_receipt.ensures.candidates c.take_back_receipt.ensures.unchanged ∙ c.decider_without-decider.ensures.read.content in (
      rw (c.in-Err.ensures.submits.content, receipts, candidates, c.in-Err.ensures.err, c.group_of-before.ensures.content) c.self.invariant.0,
      rw (c.in-Err.ensures.submits.settled, c.take_back_receipt.ensures.settled, c.in-Err.ensures.receipts.settled, c.in_ok-take_out_receipt.ensures.settled, c.receipt_facts_at-found.ensures.read.settled, c.take_back_receipt.ensures.settled_candidates, c.in_ok-take_out_receipt.ensures.settled_candidates, c.decider_without-decider.ensures.read.settled, c.in-Err.ensures.settled, c.group_of-before.ensures.settled) c.self.invariant.1,
    )

pub returns-in-Ok-clause-touches : goal.returns-in-Ok-clause-touches
returns-in-Ok-clause-touches c =
    let key = c.key_of_link-key.result in
    let was = counted-vacant (key_on c.args.link c.args.key.now) c.self.inside.submits.places c.self.inside.receipts.places c.self.inside.candidates.places in
    let emptied = member-put key (key_on c.args.link c.args.key.now) c.args.place None c.self.inside.receipts.places c.take_out_receipt.new.receipts.places (c.in_ok-take_out_receipt.ensures.places ∙ ap (λ ps. insert_entry kept_member_cmp ps (member_of key c.args.place) None) c.receipt_facts_at-found.ensures.read.places) in
    let one = at_most_one (same_key (key_on c.args.link c.args.key.now) key) in
    let looked = c.group_of-before.ensures.touches in
    let read = c.receipt_facts_at-found.ensures.read.touches in
    let out = c.in_ok-take_out_receipt.ensures.touches in
    let next = rw c.key_of_link-key.ensures at c.decider_without-decider.ensures.touches in
    let told = rw c.key_of_link-key.ensures at c.in-Ok.ensures.touches in
    rw (← c.self.view_is) (omega (arith, was, emptied, one, looked, read, out, next, told))

pub returns-in-Ok-clause-vacant : goal.returns-in-Ok-clause-vacant
returns-in-Ok-clause-vacant c = λ k.
    let key = c.key_of_link-key.result in
    let was = counted-vacant k c.self.inside.submits.places c.self.inside.receipts.places c.self.inside.candidates.places in
    let is = counted-vacant k c.standing_changes_and_summary.new.submits.places c.standing_changes_and_summary.new.receipts.places c.take_out_receipt.new.candidates.places in
    let emptied = member-put key k c.args.place None c.self.inside.receipts.places c.standing_changes_and_summary.new.receipts.places
    (c.in-Ok.ensures.receipts.places ∙ c.in_ok-take_out_receipt.ensures.places ∙ ap (λ ps. insert_entry kept_member_cmp ps (member_of key c.args.place) None) c.receipt_facts_at-found.ensures.read.places) in
    let candidate = candidate-put key k c.args.place c.gone-gone.result None c.self.inside.candidates.places c.take_out_receipt.new.candidates.places (c.in_ok-take_out_receipt.ensures.candidate_places ∙ ap (with_waiting key c.gone-gone.result None) c.decider_without-decider.ensures.read.places) in
    let two = twice (same_key k (key_on c.args.link c.args.key.now)) in
    let share = ap {B = ℕ} (λ (l : LinkKey). cond (same_key k l) 1 0) c.key_of_link-key.ensures in
    let same = ap (vacant_of member_key k) c.in-Ok.ensures.submits.places in
    rw (← c.self.view_is) (omega (arith, was, is, emptied, candidate, two, share, same))
