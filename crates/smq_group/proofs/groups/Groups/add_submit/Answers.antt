use Rattle.std.proofs.Common.{◌≡◌, None, refl, sym, ap, ◌∙◌, subst, arith, true, Some}
use Rattle.std.specs.FinMap.{get}
use Rattle.std.specs.BTreeMap.{insert_entry}
use Rattle.smq_group.specs.declared.group_summary.Group.{Group}
use Rattle.smq_group.specs.declared.group_summary.More.TheVariants as more
use Rattle.smq_group.specs.Groups.{GroupsValue, key_on, with_submit}
use Rattle.smq_group.specs.Matching.{Grouping}
use Rattle.smq_group.specs.declared.changes.Added.TheVariants as put
use Rattle.smq_group.specs.within.Orders.{kept_member_cmp}
use Rattle.smq_group.specs.within.Outlooks.{group_with, outlook_at}
use Rattle.smq_group.specs.within.Stored.{grouping_in, member_of, outlook_in}
use Rattle.smq_group.specs.within.Walked.{member_key, members_in, only_of, vacant_of}
use Rattle.smq_group.proofs.Calling.{tells-call}
use Rattle.smq_group.proofs.Changing.{Moves}
use Rattle.smq_group.proofs.Counting.{counted-add, known-is, only-more, received-is, roomy}
use Rattle.smq_group.proofs.Moving.{moves-submit}
use Rattle.smq_group.proofs.Storing.{absent, grouping-more, submit-stored}
use Rattle.smq_group.proofs.Vacating.{counted-vacant, member-put}
use Rattle.smq_group.proofs.groups.Groups.add_submit.Goals as goal

pub standing_changes-requires-clause-counted : goal.standing_changes-requires-clause-counted
standing_changes-requires-clause-counted c =
    let none : get (grouping_in c.self.inside.submits.content c.self.inside.receipts.content).submits c.args.place ≡ None = ap (λ (v : GroupsValue). get v.members.submits c.args.place) c.self.view_is ∙ c.requires.absent in
    let put : c.set.new.self.content ≡ insert_entry kept_member_cmp c.self.inside.submits.content (member_of c.new-key.result c.args.place) true = rw (← c.copy.ensures) c.in-Ok.ensures.content in
    let count = counted-add c.self.inside.submits.content c.self.inside.receipts.content c.self.inside.candidates.content c.self.inside.outlooks.content c.new-key.result c.in_ok-before.before.outlook c.self.invariant.0 (ap (λ (x : Group). x.outlook) c.in_ok-before.ensures.value) c.args.place c.set.new.self.content none put in
    ap (λ (x : Group). x.outlook.matches) c.with-after.ensures ∙ roomy c.new-key.result c.in_ok-before.before.outlook.matches c.place_count-places.result c.set.new.self.places c.set.new.self.content (count) c.place_count-places.ensures.content c.place_count-places.ensures.count c.place_count-places.ensures.small ∙ count

pub standing_changes-requires-clause-received : goal.standing_changes-requires-clause-received
standing_changes-requires-clause-received c =
    ap (λ (x : Group). x.outlook.receipts) c.with-after.ensures
    ∙ received-is c.self.inside.submits.content c.self.inside.receipts.content c.self.inside.candidates.content c.self.inside.outlooks.content c.new-key.result c.in_ok-before.before.outlook c.self.invariant.0 (ap (λ (x : Group). x.outlook) c.in_ok-before.ensures.value)

pub standing_changes-requires-clause-only : goal.standing_changes-requires-clause-only
standing_changes-requires-clause-only c =
    let none : get (grouping_in c.self.inside.submits.content c.self.inside.receipts.content).submits c.args.place ≡ None = ap (λ (v : GroupsValue). get v.members.submits c.args.place) c.self.view_is ∙ c.requires.absent in
    let put : c.set.new.self.content ≡ insert_entry kept_member_cmp c.self.inside.submits.content (member_of c.new-key.result c.args.place) true = rw (← c.copy.ensures) c.in-Ok.ensures.content in
    known-is c.with-after.result.only (members_in c.new-key.result c.set.new.self.content)
    (ap (λ (x : Group). x.only) c.with-after.ensures ∙ only-more c.self.inside.submits.content c.self.inside.receipts.content c.self.inside.candidates.content c.self.inside.outlooks.content c.new-key.result c.in_ok-before.before.outlook c.self.invariant.0 (ap (λ (x : Group). x.outlook) c.in_ok-before.ensures.value) c.args.place c.set.new.self.content none put)

pub invariant_of-self-in_default : goal.invariant_of-self-in_default
invariant_of-self-in_default c =
    let back : c.take_back.new.self.content ≡ c.self.inside.outlooks.content = c.take_back.ensures.content c.self.inside.outlooks.places c.self.inside.outlooks.past c.in_ok-before.ensures.past ∙ sym c.in_ok-before.ensures.shown in (
      rw (c.in_default.ensures.err, back) c.self.invariant.0,
      rw (c.in_default.ensures.settled, c.take_back.ensures.settled, c.in_ok-before.ensures.settled) c.self.invariant.1,
    )

pub invariant_of-self-in-Ok-standing_changes : goal.invariant_of-self-in-Ok-standing_changes
invariant_of-self-in-Ok-standing_changes c =
    let none : get (grouping_in c.self.inside.submits.content c.self.inside.receipts.content).submits c.args.place ≡ None = ap (λ (v : GroupsValue). get v.members.submits c.args.place) c.self.view_is ∙ c.requires.absent in
    let put : c.set.new.self.content ≡ insert_entry kept_member_cmp c.self.inside.submits.content (member_of c.new-key.result c.args.place) true = rw (← c.copy.ensures) c.in-Ok.ensures.content in
    let room = roomy c.new-key.result (outlook_at c.new-key.result c.self.inside.outlooks.content).matches c.place_count-places.result c.set.new.self.places c.set.new.self.content (counted-add c.self.inside.submits.content c.self.inside.receipts.content c.self.inside.candidates.content c.self.inside.outlooks.content c.new-key.result (outlook_at c.new-key.result c.self.inside.outlooks.content) c.self.invariant.0 refl c.args.place c.set.new.self.content none put) c.place_count-places.ensures.content c.place_count-places.ensures.count c.place_count-places.ensures.small in
    let now = ap (λ (x : Group). x.only) c.in_ok-before.ensures.here ∙ only-more c.self.inside.submits.content c.self.inside.receipts.content c.self.inside.candidates.content c.self.inside.outlooks.content c.new-key.result (outlook_at c.new-key.result c.self.inside.outlooks.content) c.self.invariant.0 refl c.args.place c.set.new.self.content none put in (
      rw (c.in-Ok-standing_changes.ensures.submits.content, c.in-Ok-standing_changes.ensures.receipts.content, c.in-Ok.ensures.content, c.copy.ensures)
          (submit-stored c.self.inside.submits.content c.self.inside.receipts.content c.self.inside.candidates.content c.self.inside.outlooks.content c.put_more.new.outlooks.content c.new-key.result c.args.place
          (absent c.self.inside.submits.content c.self.inside.receipts.content c.new-key.result c.args.place none) c.self.invariant.0
          (ap (λ (x : Group). x.outlook) c.in_ok-before.ensures.here ∙ ap (λ n. record (outlook_at c.new-key.result c.self.inside.outlooks.content) { matches = n }) room)
          (now ∙ ap (λ es. only_of (members_in c.new-key.result es)) put)
          c.in_ok-before.ensures.elsewhere),
      rw (c.in-Ok-standing_changes.ensures.submits.settled, c.in-Ok-standing_changes.ensures.receipts.settled, c.in-Ok.ensures.settled, c.in_ok-before.ensures.settled) c.self.invariant.1,
    )

pub invariant_of-self-in-Err : goal.invariant_of-self-in-Err
invariant_of-self-in-Err c =
    let submits : c.take_back-in-Err.new.self.content ≡ c.self.inside.submits.content = c.take_back-in-Err.ensures.content c.self.inside.submits.places c.self.inside.submits.past (c.in-Err.ensures.submits.past ∙ c.in-Ok.ensures.past) ∙ sym c.in-Ok.ensures.shown in
    let outlooks : c.take_back-in-Err-2.new.self.content ≡ c.self.inside.outlooks.content = c.take_back-in-Err-2.ensures.content c.self.inside.outlooks.places c.self.inside.outlooks.past c.in_ok-before.ensures.past ∙ sym c.in_ok-before.ensures.shown in (
      rw (submits, c.in-Err.ensures.receipts.content, outlooks) c.self.invariant.0,
      rw (c.take_back-in-Err.ensures.settled, c.in-Err.ensures.submits.settled, c.in-Ok.ensures.settled, c.in-Err.ensures.receipts.settled, c.take_back-in-Err-2.ensures.settled, c.in_ok-before.ensures.settled) c.self.invariant.1,
    )

pub returns-in-Ok-standing_changes-clause-ok : goal.returns-in-Ok-standing_changes-clause-ok
returns-in-Ok-standing_changes-clause-ok c =
    let none : get (grouping_in c.self.inside.submits.content c.self.inside.receipts.content).submits c.args.place ≡ None = ap (λ (v : GroupsValue). get v.members.submits c.args.place) c.self.view_is ∙ c.requires.absent in
    rw (← c.new-key.ensures, ← c.self.view_is, c.in-Ok-standing_changes.ensures.submits.content, c.in-Ok-standing_changes.ensures.receipts.content, c.in-Ok.ensures.content, c.copy.ensures)
    (grouping-more c.self.inside.submits.content c.self.inside.receipts.content c.new-key.result c.args.place none)

pub returns-in-Ok-standing_changes-clause-changes : goal.returns-in-Ok-standing_changes-clause-changes
returns-in-Ok-standing_changes-clause-changes c =
    let key = c.new-key.result in
    let g = c.args.self.now.members in
    let after = ap (λ (x : Group). x.outlook) (c.in_ok-before.ensures.here ∙ sym (c.with-after.ensures ∙ ap (λ (x : Group). group_with x (more.Submit c.args.place)) c.in_ok-before.ensures.value)) in
    tells-call g c.standing_changes.new.submits.content c.set.new.self.content c.standing_changes.new.receipts.content c.self.inside.receipts.content c.self.inside.candidates.content c.put_more.new.outlooks.content key (put.Submit c.args.place)
    c.in_ok-before.before.outlook c.with-after.result.outlook c.in-Ok-standing_changes.changes.items
    c.in-Ok-standing_changes.ensures.submits.content c.in-Ok-standing_changes.ensures.receipts.content
    (subst (λ (h : Grouping). Moves g h key (put.Submit c.args.place)) (ap (λ k. with_submit g k c.args.place) c.new-key.ensures ∙ sym (returns-in-Ok-standing_changes-clause-ok c)) (moves-submit g key c.args.place c.requires.absent))
    (invariant_of-self-in-Ok-standing_changes c).0
    ((ap (λ (x : Group). x.outlook) c.in_ok-before.ensures.value) ∙ c.self.invariant.0.indexed.outlook key ∙ ap (λ (v : GroupsValue). outlook_in v.members key) c.self.view_is)
    after c.in-Ok-standing_changes.ensures.told c.in-Ok-standing_changes.ensures.submits_by_place c.in-Ok-standing_changes.ensures.receipts_by_place

pub returns-in-Ok-standing_changes-clause-touches : goal.returns-in-Ok-standing_changes-clause-touches
returns-in-Ok-standing_changes-clause-touches c =
    let key = c.new-key.result in
    let was = counted-vacant (key_on c.args.link c.args.key) c.self.inside.submits.places c.self.inside.receipts.places c.self.inside.candidates.places in
    let filled = member-put key (key_on c.args.link c.args.key) c.args.place (Some true) c.self.inside.submits.places c.set.new.self.places (rw (← c.copy.ensures) c.in-Ok.ensures.places) in
    let more = c.put_more.ensures.touches in
    let set = c.in-Ok.ensures.touches in
    let told = rw c.new-key.ensures at c.in-Ok-standing_changes.ensures.touches in
    rw (← c.self.view_is) (omega (arith, was, filled, more, set, told))

pub returns-in-Ok-standing_changes-clause-vacant : goal.returns-in-Ok-standing_changes-clause-vacant
returns-in-Ok-standing_changes-clause-vacant c = λ k.
    let was = counted-vacant k c.self.inside.submits.places c.self.inside.receipts.places c.self.inside.candidates.places in
    let is = counted-vacant k c.standing_changes.new.submits.places c.standing_changes.new.receipts.places c.self.inside.candidates.places in
    let filled = member-put c.new-key.result k c.args.place (Some true) c.self.inside.submits.places c.standing_changes.new.submits.places (rw (← c.copy.ensures) (c.in-Ok-standing_changes.ensures.submits.places ∙ c.in-Ok.ensures.places)) in
    let same = ap (vacant_of member_key k) c.in-Ok-standing_changes.ensures.receipts.places in
    rw (← c.self.view_is) (omega (arith, was, is, filled, same))
