use Rattle.std.proofs.Common.{ℕ, ◌≡◌, ◌-◌, Some, refl, sym, ap, ◌∙◌, subst, arith, None, cond}
use Rattle.std.specs.FinMap.{get}
use Rattle.std.specs.Map.{remove_entry}
use Rattle.std.specs.BTreeMap.{is_at}
use Rattle.smq_group.specs.declared.group_summary.Group.{Group}
use Rattle.smq_group.specs.declared.group_summary.GroupSummary.{GroupSummary}
use Rattle.smq_group.specs.Groups.{GroupsValue, key_on}
use Rattle.smq_group.specs.Matching.{Grouping, matches}
use Rattle.smq_group.specs.declared.changes.Added.TheVariants as put
use Rattle.smq_group.specs.within.Outlooks.{group_at, outlook_at}
use Rattle.smq_group.specs.within.Stored.{grouping_in, member_of, outlook_in}
use Rattle.smq_group.specs.within.Orders.{kept_member_cmp}
use Rattle.smq_group.proofs.Calling.{tells-call}
use Rattle.smq_group.proofs.Changing.{Moves, submit-counts}
use Rattle.smq_group.proofs.Counting.{counted-remove, only-told, received-is}
use Rattle.smq_group.proofs.Moving.{moves-no_submit}
use Rattle.smq_group.proofs.Storing.{grouping-less, submit-taken, is_held}
use Rattle.smq_kit.specs.LinkKeys.{same_key}
use Rattle.smq_group.specs.within.Walked.{member_key, members_in, only_of, vacant_of}
use Rattle.smq_group.proofs.Vacating.{at_most_one, counted-vacant, member-put}
use Rattle.smq_kit.specs.declared.link_key.LinkKey.{LinkKey}
use Rattle.smq_group.proofs.groups.Groups.remove_submit.Goals as goal

pub without_submit-after-requires : goal.without_submit-after-requires
without_submit-after-requires c =
    let there : get (grouping_in c.self.inside.submits.content c.self.inside.receipts.content).submits c.args.place ≡ Some (key_on c.args.link c.args.key.now) = ap (λ (v : GroupsValue). get v.members.submits c.args.place) c.self.view_is ∙ c.requires.there in
    let count : c.group_of-before.result.outlook.matches ≡ matches (grouping_in c.self.inside.submits.content c.self.inside.receipts.content) (key_on c.args.link c.args.key.now) =
    ap (λ (o : GroupSummary). o.matches) ((ap (λ (x : Group). x.outlook) c.group_of-before.ensures.value) ∙ ap (λ k. outlook_at k c.self.inside.outlooks.content) c.key_of_link-key.ensures ∙ c.self.invariant.0.indexed.outlook (key_on c.args.link c.args.key.now)) in
    let some = submit-counts (grouping_in c.self.inside.submits.content c.self.inside.receipts.content) (key_on c.args.link c.args.key.now) c.args.place there in
    omega (arith, some, count)

pub standing_changes_and_summary-requires-clause-counted : goal.standing_changes_and_summary-requires-clause-counted
standing_changes_and_summary-requires-clause-counted c =
    ap (λ (o : GroupSummary). o.matches) c.without_submit-after.ensures ∙ (let there : get (grouping_in c.self.inside.submits.content c.self.inside.receipts.content).submits c.args.place ≡ Some c.key_of_link-key.result = ap (λ (v : GroupsValue). get v.members.submits c.args.place) c.self.view_is ∙ c.requires.there ∙ ap Some (sym c.key_of_link-key.ensures) in
    counted-remove c.self.inside.submits.content c.self.inside.receipts.content c.self.inside.candidates.content c.self.inside.outlooks.content c.key_of_link-key.result c.group_of-before.result.outlook
    c.self.invariant.0 (ap (λ (x : Group). x.outlook) c.group_of-before.ensures.value) c.args.place c.remove.new.self.content there (rw (← c.copy.ensures) c.in_ok-remove.ensures.content))

pub standing_changes_and_summary-requires-clause-received : goal.standing_changes_and_summary-requires-clause-received
standing_changes_and_summary-requires-clause-received c =
    ap (λ (o : GroupSummary). o.receipts) c.without_submit-after.ensures
    ∙ received-is c.self.inside.submits.content c.self.inside.receipts.content c.self.inside.candidates.content c.self.inside.outlooks.content c.key_of_link-key.result c.group_of-before.result.outlook
    c.self.invariant.0 (ap (λ (x : Group). x.outlook) c.group_of-before.ensures.value)

pub invariant_of-self-in-Ok : goal.invariant_of-self-in-Ok
invariant_of-self-in-Ok c =
    let there : get (grouping_in c.self.inside.submits.content c.self.inside.receipts.content).submits c.args.place ≡ Some c.key_of_link-key.result = ap (λ (v : GroupsValue). get v.members.submits c.args.place) c.self.view_is ∙ c.requires.there ∙ ap Some (sym c.key_of_link-key.ensures) in
    let left : c.remove.new.self.content ≡ remove_entry (is_at (kept_member_cmp (member_of c.key_of_link-key.result c.args.place))) c.self.inside.submits.content = rw (← c.copy.ensures) c.in_ok-remove.ensures.content in
    let less = ap (λ (o : GroupSummary). o.matches) c.without_submit-after.ensures in
    let count = counted-remove c.self.inside.submits.content c.self.inside.receipts.content c.self.inside.candidates.content c.self.inside.outlooks.content c.key_of_link-key.result c.group_of-before.result.outlook
    c.self.invariant.0 (ap (λ (x : Group). x.outlook) c.group_of-before.ensures.value) c.args.place c.remove.new.self.content there left in
    let known : c.group_of-before.result.outlook.matches ≡ matches (grouping_in c.self.inside.submits.content c.self.inside.receipts.content) c.key_of_link-key.result =
    ap (λ (x : Group). x.outlook.matches) c.group_of-before.ensures.value ∙ ap (λ (o : GroupSummary). o.matches) (c.self.invariant.0.indexed.outlook c.key_of_link-key.result) in
    let some = submit-counts (grouping_in c.self.inside.submits.content c.self.inside.receipts.content) c.key_of_link-key.result c.args.place there in
    let only = only-told c.group_of-before.result.outlook c.without_submit-after.result (members_in c.key_of_link-key.result c.remove.new.self.content) _ c.in-Ok.changes.items (omega (arith, less, known, some)) (less ∙ count) c.in-Ok.ensures.told in (
      rw (c.in-Ok.ensures.submits.content, c.in-Ok.ensures.receipts.content, c.in_ok-remove.ensures.content, c.copy.ensures)
          (submit-taken c.self.inside.submits.content c.self.inside.receipts.content c.self.inside.candidates.content c.self.inside.outlooks.content c.standing_changes_and_summary.new.outlooks.content c.key_of_link-key.result c.args.place
          there c.self.invariant.0
          (ap (λ (x : Group). x.outlook) c.in-Ok.ensures.here ∙ c.without_submit-after.ensures ∙ ap (λ (o : GroupSummary). record o { matches = o.matches - 1 }) (ap (λ (x : Group). x.outlook) c.group_of-before.ensures.value))
          (ap (λ (x : Group). x.only) c.in-Ok.ensures.here ∙ only ∙ ap (λ es. only_of (members_in c.key_of_link-key.result es)) left)
          (λ other h. c.in-Ok.ensures.elsewhere other h ∙ ap (group_at other) c.group_of-before.ensures.content)),
      rw (c.in-Ok.ensures.submits.settled, c.in-Ok.ensures.receipts.settled, c.in-Ok.ensures.settled, c.in_ok-remove.ensures.settled, c.group_of-before.ensures.settled) c.self.invariant.1,
    )

pub returns-in-Ok-clause-ok : goal.returns-in-Ok-clause-ok
returns-in-Ok-clause-ok c =
    let there : get (grouping_in c.self.inside.submits.content c.self.inside.receipts.content).submits c.args.place ≡ Some c.key_of_link-key.result = ap (λ (v : GroupsValue). get v.members.submits c.args.place) c.self.view_is ∙ c.requires.there ∙ ap Some (sym c.key_of_link-key.ensures) in
    rw (← c.self.view_is, c.in-Ok.ensures.submits.content, c.in-Ok.ensures.receipts.content, c.in_ok-remove.ensures.content, c.copy.ensures)
    (grouping-less c.self.inside.submits.content c.self.inside.receipts.content c.key_of_link-key.result c.args.place c.self.inside.candidates.content c.self.inside.outlooks.content c.self.invariant.0 there)

pub returns-in-Err-clause-err : goal.returns-in-Err-clause-err
returns-in-Err-clause-err c =
    let there : get (grouping_in c.self.inside.submits.content c.self.inside.receipts.content).submits c.args.place ≡ Some c.key_of_link-key.result = ap (λ (v : GroupsValue). get v.members.submits c.args.place) c.self.view_is ∙ c.requires.there ∙ ap Some (sym c.key_of_link-key.ensures) in
    let held = is_held c.self.inside.submits.content c.self.inside.receipts.content c.key_of_link-key.result c.args.place there in
    let back : c.take_back.new.self.content ≡ c.self.inside.submits.content = c.take_back.ensures.content c.self.inside.submits.places c.self.inside.submits.past (c.in-Err.ensures.submits.past ∙ c.in_ok-remove.ensures.past (rw c.copy.ensures held)) ∙ sym c.in_ok-remove.ensures.shown in
    rw (← c.self.view_is, back, c.in-Err.ensures.receipts.content) refl

pub invariant_of-self-in-Err : goal.invariant_of-self-in-Err
invariant_of-self-in-Err c =
    let there : get (grouping_in c.self.inside.submits.content c.self.inside.receipts.content).submits c.args.place ≡ Some c.key_of_link-key.result = ap (λ (v : GroupsValue). get v.members.submits c.args.place) c.self.view_is ∙ c.requires.there ∙ ap Some (sym c.key_of_link-key.ensures) in
    let held = is_held c.self.inside.submits.content c.self.inside.receipts.content c.key_of_link-key.result c.args.place there in
    let back : c.take_back.new.self.content ≡ c.self.inside.submits.content = c.take_back.ensures.content c.self.inside.submits.places c.self.inside.submits.past (c.in-Err.ensures.submits.past ∙ c.in_ok-remove.ensures.past (rw c.copy.ensures held)) ∙ sym c.in_ok-remove.ensures.shown in (
      rw (back, c.in-Err.ensures.receipts.content, c.in-Err.ensures.err, c.group_of-before.ensures.content) c.self.invariant.0,
      rw (c.take_back.ensures.settled, c.in-Err.ensures.submits.settled, c.in-Err.ensures.receipts.settled, c.in-Err.ensures.settled, c.in_ok-remove.ensures.settled, c.group_of-before.ensures.settled) c.self.invariant.1,
    )

pub returns-in-Ok-clause-changes : goal.returns-in-Ok-clause-changes
returns-in-Ok-clause-changes c =
    let key = c.key_of_link-key.result in
    let g = c.args.self.now.members in
    tells-call g c.standing_changes_and_summary.new.submits.content c.remove.new.self.content c.standing_changes_and_summary.new.receipts.content c.self.inside.receipts.content c.self.inside.candidates.content c.standing_changes_and_summary.new.outlooks.content key put.Nothing
    c.group_of-before.result.outlook c.without_submit-after.result c.in-Ok.changes.items
    c.in-Ok.ensures.submits.content c.in-Ok.ensures.receipts.content
    (subst (λ (h : Grouping). Moves g h key put.Nothing) (sym (returns-in-Ok-clause-ok c)) (moves-no_submit g key c.args.place (c.requires.there ∙ ap Some (sym c.key_of_link-key.ensures))))
    (invariant_of-self-in-Ok c).0
    ((ap (λ (x : Group). x.outlook) c.group_of-before.ensures.value) ∙ c.self.invariant.0.indexed.outlook key ∙ ap (λ (v : GroupsValue). outlook_in v.members key) c.self.view_is)
    (ap (λ (x : Group). x.outlook) c.in-Ok.ensures.here) c.in-Ok.ensures.told c.in-Ok.ensures.submits_by_place c.in-Ok.ensures.receipts_by_place

pub returns-in-Ok-clause-touches : goal.returns-in-Ok-clause-touches
returns-in-Ok-clause-touches c =
    let key = c.key_of_link-key.result in
    let there : get (grouping_in c.self.inside.submits.content c.self.inside.receipts.content).submits c.args.place ≡ Some key = ap (λ (v : GroupsValue). get v.members.submits c.args.place) c.self.view_is ∙ c.requires.there ∙ ap Some (sym c.key_of_link-key.ensures) in
    let held = is_held c.self.inside.submits.content c.self.inside.receipts.content key c.args.place there in
    let was = counted-vacant (key_on c.args.link c.args.key.now) c.self.inside.submits.places c.self.inside.receipts.places c.self.inside.candidates.places in
    let emptied = member-put key (key_on c.args.link c.args.key.now) c.args.place None c.self.inside.submits.places c.remove.new.self.places (rw (← c.copy.ensures) (c.in_ok-remove.ensures.places (rw c.copy.ensures held))) in
    let one = at_most_one (same_key (key_on c.args.link c.args.key.now) key) in
    let looked = c.group_of-before.ensures.touches in
    let removed = c.in_ok-remove.ensures.touches in
    let told = rw c.key_of_link-key.ensures at c.in-Ok.ensures.touches in
    rw (← c.self.view_is) (omega (arith, was, emptied, one, looked, removed, told))

pub returns-in-Ok-clause-vacant : goal.returns-in-Ok-clause-vacant
returns-in-Ok-clause-vacant c = λ k.
    let key = c.key_of_link-key.result in
    let there : get (grouping_in c.self.inside.submits.content c.self.inside.receipts.content).submits c.args.place ≡ Some key = ap (λ (v : GroupsValue). get v.members.submits c.args.place) c.self.view_is ∙ c.requires.there ∙ ap Some (sym c.key_of_link-key.ensures) in
    let held = is_held c.self.inside.submits.content c.self.inside.receipts.content key c.args.place there in
    let was = counted-vacant k c.self.inside.submits.places c.self.inside.receipts.places c.self.inside.candidates.places in
    let is = counted-vacant k c.standing_changes_and_summary.new.submits.places c.standing_changes_and_summary.new.receipts.places c.self.inside.candidates.places in
    let emptied = member-put key k c.args.place None c.self.inside.submits.places c.standing_changes_and_summary.new.submits.places (c.in-Ok.ensures.submits.places ∙ rw (← c.copy.ensures) (c.in_ok-remove.ensures.places (rw c.copy.ensures held))) in
    let same = ap (vacant_of member_key k) c.in-Ok.ensures.receipts.places in
    let share = ap {B = ℕ} (λ (l : LinkKey). cond (same_key k l) 1 0) c.key_of_link-key.ensures in
    rw (← c.self.view_is) (omega (arith, was, is, emptied, same, share))
