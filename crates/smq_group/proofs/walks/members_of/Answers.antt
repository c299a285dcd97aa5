use Rattle.std.proofs.Common.{◌+◌, filter, ◌≡◌, true, ap, ◌∙◌, arith, find, map, length}
use Rattle.smq_shelf.specs.Places.{content_of}
use Rattle.smq_shelf.specs.Walks.{stands_after}
use Rattle.smq_shelf.proofs.Walks.{after-rises, left-found, of-rises, step-length, walked-more, walked-on}
use Rattle.smq_group.specs.within.Orders.{kept_member_cmp}
use Rattle.smq_group.specs.within.Walked.{of_part, placed}
use Rattle.smq_group.proofs.Finding.{found-of}
use Rattle.smq_group.proofs.Placing.{members_total, sorted_none}
use Rattle.smq_group.proofs.Walking.{members-by_place, step-gathered, end-gathered, full-gathered, places-parted}
use Rattle.smq_group.proofs.walks.members_of.Goals as goal

pub returns-then-most-eq0-clause-by_place : goal.returns-then-most-eq0-clause-by_place
returns-then-most-eq0-clause-by_place g c = λ _. rw c.new-members.ensures.items sorted_none

pub loop-next-init : goal.loop-next-init
loop-next-init g c =
    let first = left-found members_total (of_part c.args.by_link c.args.key.now) c.args.kept.now.places c.first_of-next.ensures.ordered (of_part c.args.by_link c.args.key.now) c.first_of-next.result (of-rises members_total (of_part c.args.by_link c.args.key.now)) c.first_of-next.ensures.value in
    let left = ap length first in
    let walked = c.first_of-next.ensures.walked in
    let touches = walked.touches in
    record {
      walked = walked-more 1 (1 + length (filter (of_part c.args.by_link c.args.key.now) c.args.kept.now.places)) walked (omega arith);
      touches = omega (arith, left, touches);
      gathered = rw c.new-members.ensures.items (ap (λ xs. map placed (content_of xs)) first);
      like = found-of members_total (of_part c.args.by_link c.args.key.now) (of_part c.args.by_link c.args.key.now) c.args.kept.now.places c.first_of-next.result (of-rises members_total (of_part c.args.by_link c.args.key.now)) c.first_of-next.ensures.value;
    }

pub loop-next-smaller : goal.loop-next-smaller
loop-next-smaller g c =
    let value = c.next_of-next.ensures.value ∙ ap (λ es. find (stands_after kept_member_cmp (of_part c.args.by_link c.args.key.now) c.in-Some.member) es) c.loop-next.invariant.walked.places in
    let left = step-length members_total (of_part c.args.by_link c.args.key.now) c.args.kept.now.places c.first_of-next.ensures.ordered (c.in-Some.member, c.in-Some.value) c.loop-next.next c.next_of-next.result c.in-Some.is value in
    omega (arith, left)

pub loop-next-preserved : goal.loop-next-preserved
loop-next-preserved g c =
    let value = c.next_of-next.ensures.value ∙ ap (λ es. find (stands_after kept_member_cmp (of_part c.args.by_link c.args.key.now) c.in-Some.member) es) c.loop-next.invariant.walked.places in
    let left = step-length members_total (of_part c.args.by_link c.args.key.now) c.args.kept.now.places c.first_of-next.ensures.ordered (c.in-Some.member, c.in-Some.value) c.loop-next.next c.next_of-next.result c.in-Some.is value in
    let walked = c.next_of-next.ensures.walked in
    let touches = walked.touches in
    let bound = c.loop-next.invariant.touches in
    record {
      walked = walked-on (1 + length (filter (of_part c.args.by_link c.args.key.now) c.args.kept.now.places)) 1 (1 + length (filter (of_part c.args.by_link c.args.key.now) c.args.kept.now.places)) c.loop-next.invariant.walked walked (omega (arith, touches, bound, left));
      touches = omega (arith, touches, bound, left);
      gathered = step-gathered c.args.by_link c.args.key.now c.args.kept.now.places c.first_of-next.ensures.ordered c.in-Some.member c.in-Some.value c.loop-next.next c.next_of-next.result
          c.loop-next.members.items c.push_there.new.members.items
          (map placed (content_of (filter (of_part c.args.by_link c.args.key.now) c.args.kept.now.places))) c.in-Some.is value c.loop-next.invariant.gathered c.in_ok-push_there.ensures;
      like = found-of members_total (of_part c.args.by_link c.args.key.now) (stands_after kept_member_cmp (of_part c.args.by_link c.args.key.now) c.in-Some.member) c.args.kept.now.places c.next_of-next.result (after-rises members_total (of_part c.args.by_link c.args.key.now) c.in-Some.member) value;
    }

pub returns-clause-value : goal.returns-clause-value
returns-clause-value g c =
    end-gathered c.args.by_link c.args.key.now c.args.kept.now.places c.first_of-next.ensures.ordered c.loop-next.next c.loop-next.members.items c.args.kept.now.content
    c.loop-next.invariant.gathered c.in_default.is c.first_of-next.ensures.content

pub returns-clause-by_place : goal.returns-clause-by_place
returns-clause-by_place g c = λ f. members-by_place c.args.key.now c.args.by_link c.args.kept.now.places c.args.kept.now.content c.loop-next.members.items f
    c.first_of-next.ensures.ordered c.first_of-next.ensures.content (returns-clause-value g c)

pub returns-clause-touches : goal.returns-clause-touches
returns-clause-touches g c =
    let parted = places-parted c.args.by_link c.args.key.now c.args.kept.now.places c.args.kept.now.content c.loop-next.members.items c.first_of-next.ensures.content (returns-clause-value g c) in
    let touches = c.loop-next.invariant.walked.touches in
    omega (arith, parted, touches)

pub returns-then-len-most-clause-value : goal.returns-then-len-most-clause-value
returns-then-len-most-clause-value g c =
    let enough = c.requires.most in
    let full = c.if-len-most.true in
    let len = c.len.ensures in
    full-gathered c.args.by_link c.args.key.now c.args.kept.now.places c.first_of-next.ensures.ordered c.in-Some.member c.in-Some.value c.loop-next.next c.loop-next.members.items c.push_there.new.members.items
    c.args.kept.now.content c.loop-next.invariant.gathered c.in-Some.is c.in_ok-push_there.ensures c.first_of-next.ensures.content (omega (arith, enough, full, len))

pub returns-then-len-most-clause-by_place : goal.returns-then-len-most-clause-by_place
returns-then-len-most-clause-by_place g c = λ f. members-by_place c.args.key.now c.args.by_link c.args.kept.now.places c.args.kept.now.content c.push_there.new.members.items f
    c.first_of-next.ensures.ordered c.first_of-next.ensures.content (returns-then-len-most-clause-value g c)

pub returns-then-len-most-clause-touches : goal.returns-then-len-most-clause-touches
returns-then-len-most-clause-touches g c =
    let parted = places-parted c.args.by_link c.args.key.now c.args.kept.now.places c.args.kept.now.content c.push_there.new.members.items c.first_of-next.ensures.content (returns-then-len-most-clause-value g c) in
    let touches = c.loop-next.invariant.walked.touches in
    omega (arith, parted, touches)
