use Rattle.std.proofs.Common.{◌≡◌, Option, ap, sym, subst, ◌∙◌, arith}
use Rattle.std.specs.FinMap.{FinMap, get}
use Rattle.smq_kit.specs.Orders.{place_cmp}
use Rattle.smq_kit.specs.declared.place.Dir.{Dir}
use Rattle.smq_kit.specs.declared.place.Dir.TheVariants.{FromCentre}
use Rattle.smq_pair.specs.Growth.{made_by, pushed}
use Rattle.smq_pair.specs.Pairing.{PairingValue, pair_at, placed_header}
use Rattle.smq_pair.specs.declared.pairing.Pair.{Pair}
use Rattle.smq_group.specs.Groups.{GroupsValue}
use Rattle.smq_book.specs.index.Held.{held_now, traffic_held}
use Rattle.smq_book.specs.index.Touches.{HasNoneVacant, MembersCome, answered_key, members_at, pdu_load}
use Rattle.smq_book.specs.index.Pushed.{IsUnsaid}
use Rattle.smq_present.specs.pairing.Traffic.{Message, place_of, placed}
use Rattle.smq_present.specs.within.Pairs.{from_session}
use Rattle.smq_book.proofs.lemmas.index.Comes.{answered-heavier, both-come, still-none}
use Rattle.smq_book.proofs.lemmas.index.Pushed.{messages-noted}
use Rattle.smq_book.proofs.index.appended_pdu.push_pdu.Goals as goal

-- the pair that is made is that of the PDU, and the messages are as they were
pub answer_made-requires-clause-waits : goal.answer_made-requires-clause-waits
answer_made-requires-clause-waits c = λ pair m is there.
    let s = c.args.settings.now in
    let origin = from_session c.args.session in
    let next = c.args.pdu.now in
    let v = c.args.pairing.now.pdus in
    let g = held_now c.args.index.now in
    let noted = held_now c.note_of_centre.new.index in
    let made : Option Pair = c.in_ok-made.made in
    let first = c.in_ok-note_of_centre-in-FromCentre.ensures.ok.held s c.requires.held in
    let made_is : made ≡ made_by v (placed origin FromCentre next) =
    c.in_ok-made.ensures.made
    ∙ ap (λ (v : PairingValue). pair_at v c.place_of-place.result) c.in_ok-made.ensures.added
    ∙ (λ i. pair_at (pushed v (placed_header (c.place_of-place.ensures i) next.command next.status next.seq)) (c.place_of-place.ensures i))
    ∙ ap (λ (dir : Dir). made_by v (placed origin dir next)) c.in-FromCentre.is in
    (subst (λ (dir : Dir). IsUnsaid (traffic_held g) origin dir next (made_by v (placed origin dir next))) c.in-FromCentre.is c.requires.unsaid).1
    pair m (sym made_is ∙ is)
    (ap (λ (x : FinMap place_cmp Message). get x pair.request) (sym (messages-noted origin s g noted FromCentre next made first)) ∙ there)

pub returns-in_ok-put_received-in-FromCentre-clause-came : goal.returns-in_ok-put_received-in-FromCentre-clause-came
returns-in_ok-put_received-in-FromCentre-clause-came c =
    subst (λ (x : GroupsValue). MembersCome x c.put_received.new.index.groups) c.note_of_centre.ensures.keeps.groups
    (both-come c.note_of_centre.new.index.groups c.answer_made.new.index.groups c.put_received.new.index.groups
    c.in_ok-answer_made-in-FromCentre.ensures.came c.in_ok-put_received-in-FromCentre.ensures.came)

pub returns-in_ok-put_received-in-FromCentre-clause-touches : goal.returns-in_ok-put_received-in-FromCentre-clause-touches
returns-in_ok-put_received-in-FromCentre-clause-touches c = λ full.
    let noted = subst HasNoneVacant (sym c.note_of_centre.ensures.keeps.groups) full in
    let answered = c.in_ok-answer_made-in-FromCentre.ensures.touches noted in
    let received = c.in_ok-put_received-in-FromCentre.ensures.touches
    (still-none c.note_of_centre.new.index.groups c.answer_made.new.index.groups c.in_ok-answer_made-in-FromCentre.ensures.came noted) in
    let made : Option Pair = c.in_ok-made.made in
    let v = c.add.new.self.pdus in
    let from = from_session c.args.session in
    let next = c.args.pdu.now in
    let members = c.put_received.new.index.groups.members in
    let more = answered-heavier c.answer_made.new.index.groups c.put_received.new.index.groups c.in_ok-put_received-in-FromCentre.ensures.came
    made made (λ pair is. is) in
    let here = ap (λ (x : Option Pair). members_at members (answered_key members x))
    (c.in_ok-made.ensures.made ∙ ap (pair_at v) (c.place_of-place.ensures ∙ ap (λ (dir : Dir). place_of from dir next) c.in-FromCentre.is)) in
    let load = ap (λ (dir : Dir). pdu_load members v from dir next) c.in-FromCentre.is in
    omega (arith, answered, received, more, here, load, c.in_ok-made.ensures.touches, c.in_ok-made.ensures.pending, c.note_of_centre.ensures.keeps.touches)
