use Rattle.std.proofs.Common.{◌≡◌, [], ◌∷◌, Option, Some, None, ap, ◌∙◌, rules, arith}
use Rattle.std.specs.FinMap.{get}
use Rattle.std.specs.Option.{option_map}
use Rattle.std.specs.Arc.{arc_value}
use Rattle.smq_kit.specs.declared.place.Place.{Place}
use Rattle.smq_pdu.specs.declared.body.Submit.{Submit}
use Rattle.smq_group.specs.Matching.{Grouping}
use Rattle.smq_book.specs.index.Held.{Holding, held_now, traffic_held}
use Rattle.smq_book.specs.index.Pushed.{origin_at, submit_moves}
use Rattle.smq_book.specs.index.Touches.{members_at}
use Rattle.smq_present.specs.join.Moves.{PutMessage}
use Rattle.smq_book.proofs.lemmas.index.Comes.{message-comes, message-weighed}
use Rattle.smq_book.proofs.lemmas.index.Followed.{unknown-before}
use Rattle.smq_book.proofs.lemmas.index.Members.{submit-absent}
use Rattle.smq_book.proofs.lemmas.index.Pushed.{after-one, after-same, submit-one}
use Rattle.smq_book.proofs.index.appended_pdu.put_submit.Goals as goal

pub put_message-requires-clause-unknown : goal.put_message-requires-clause-unknown
put_message-requires-clause-unknown c =
    let g = held_now c.args.index.now in
    unknown-before c.args.settings.now (traffic_held g) c.args.index.now c.requires.held.held c.place_of.result
    (ap (get g.messages) c.place_of.ensures ∙ c.requires.absent)

pub returns-clause-held : goal.returns-clause-held
returns-clause-held c =
    let s = c.args.settings.now in
    let g = held_now c.args.index.now in
    let h = held_now c.put_message.new.self in
    let origin = origin_at c.args.session c.args.link in
    let q = c.place_of.result in
    let m = c.message_with-message.result in
    let submit = arc_value c.in-Some.submit in
    let some : ◌≡◌ {A = Option Submit} (Some submit) (option_map arc_value c.in_ok-submit.field-0) = search rules in
    after-same s g h (PutMessage (q, m) ∷ []) (submit_moves origin c.args.pdu.now c.args.response)
    (submit-one origin c.args.pdu.now c.args.response submit q m c.place_of.ensures (c.message_with-message.ensures c.args.session)
    (some ∙ c.in_ok-submit.ensures))
    (after-one s g h (PutMessage (q, m)) c.requires.held (ap (λ (q : Place). q.dir) c.place_of.ensures)
    (c.in_ok-put_message.ensures.held (traffic_held g) c.requires.held.traffic c.requires.held.held))

pub returns-clause-came : goal.returns-clause-came
returns-clause-came c =
    let s = c.args.settings.now in
    let t = traffic_held (held_now c.args.index.now) in
    let g = c.args.index.now.groups in
    let h = c.put_message.new.self.groups in
    let q = c.place_of.result in
    let m = c.message_with-message.result in
    let were = ap (λ (x : Holding). x.members) c.requires.held.held in
    let are = ap (λ (x : Holding). x.members) (c.in_ok-put_message.ensures.held t c.requires.held.traffic c.requires.held.held) in
    let absent : get t.messages q ≡ None = ap (get t.messages) c.place_of.ensures ∙ c.requires.absent in
    let none = ap (λ (x : Grouping). get x.submits q) were ∙ submit-absent s q t absent in
    message-comes g h q c.in_ok-put_message.ensures.vacant s t m were are none

pub returns-clause-touches : goal.returns-clause-touches
returns-clause-touches c = λ full.
    let s = c.args.settings.now in
    let t = traffic_held (held_now c.args.index.now) in
    let g = c.args.index.now.groups in
    let h = c.put_message.new.self.groups in
    let q = c.place_of.result in
    let m = c.message_with-message.result in
    let were = ap (λ (x : Holding). x.members) c.requires.held.held in
    let are = ap (λ (x : Holding). x.members) (c.in_ok-put_message.ensures.held t c.requires.held.traffic c.requires.held.held) in
    let absent : get t.messages q ≡ None = ap (get t.messages) c.place_of.ensures ∙ c.requires.absent in
    let none = ap (λ (x : Grouping). get x.submits q) were ∙ submit-absent s q t absent in
    let weighed = message-weighed g h q c.in_ok-put_message.ensures.vacant s t m were are none full in
    let here = ap (λ (q : Place). members_at h.members (get h.members.submits q)) c.place_of.ensures in
    omega (arith, weighed, here, c.in_ok-put_message.ensures.weighs)
