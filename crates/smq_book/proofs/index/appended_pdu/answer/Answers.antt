use Rattle.std.proofs.Common.{◌≡◌, [], ◌∷◌, Option, Some, None, ap, sym, ◌∙◌, rules, arith}
use Rattle.std.specs.FinMap.{get}
use Rattle.std.specs.Option.{option_copied}
use Rattle.smq_group.specs.Matching.{Grouping}
use Rattle.smq_book.specs.index.Held.{Holding, held_now, traffic_held}
use Rattle.smq_book.specs.index.Pushed.{answer_moves, with_response, without_response}
use Rattle.smq_present.specs.join.Moves.{PutMessage, TakeMessage}
use Rattle.smq_present.specs.pairing.Traffic.{Message}
use Rattle.smq_book.proofs.lemmas.index.Comes.{message-comes, message-weighed}
use Rattle.smq_book.proofs.lemmas.index.Members.{submit-there}
use Rattle.smq_book.proofs.lemmas.index.Pushed.{after-none, after-one, after-over, after-same, answer-none, answer-one}
use Rattle.smq_book.proofs.lemmas.index.Stored.{stored-at}
use Rattle.smq_book.proofs.index.appended_pdu.answer.Goals as goal

pub returns-in_default-clause-held : goal.returns-in_default-clause-held
returns-in_default-clause-held c =
    let s = c.args.settings.now in
    let g = held_now c.args.index.now in
    let q = c.args.pair.request in
    let gone : ◌≡◌ {A = Option Message} None (option_copied c.get.result) = search rules in
    let none : get g.messages q ≡ None = sym (gone ∙ c.get.ensures ∙ stored-at c.args.index.now.messages.content q) in
    after-same s g g [] (answer_moves g.messages (Some c.args.pair) c.args.response.now)
    (answer-none g.messages c.args.response.now c.args.pair none) (after-none s g c.requires.held)

-- the message that is stored there is the answered one without its response
pub answer_message-requires-clause-unanswered : goal.answer_message-requires-clause-unanswered
answer_message-requires-clause-unanswered c =
    let m = c.in-Some.message.now in
    let some : ◌≡◌ {A = Option Message} (Some m) (option_copied c.get.result) = search rules in
    let there : get (held_now c.args.index.now).messages c.args.pair.request ≡ Some m =
    sym (some ∙ c.get.ensures ∙ stored-at c.args.index.now.messages.content c.args.pair.request) in
    there
    ∙ ap (λ r. Some (record m { response = r })) (c.requires.waits m there)
    ∙ sym (ap (λ x. Some (without_response x)) c.in_ok-answered.ensures)

pub returns-clause-held : goal.returns-clause-held
returns-clause-held c =
    let s = c.args.settings.now in
    let g = held_now c.args.index.now in
    let put = held_now c.answer_message.new.self in
    let q = c.args.pair.request in
    let m = c.in-Some.message.now in
    let n = c.in_ok-answered.answered in
    let some : ◌≡◌ {A = Option Message} (Some m) (option_copied c.get.result) = search rules in
    let there : get g.messages q ≡ Some m = sym (some ∙ c.get.ensures ∙ stored-at c.args.index.now.messages.content q) in
    let one = after-one s g put (PutMessage (q, n)) c.requires.held (c.requires.held.traffic.messages q m there)
    (c.in_ok-answer_message.ensures.held (traffic_held g) c.requires.held.traffic c.requires.held.held) in
    after-same s g put (TakeMessage q ∷ PutMessage (q, n) ∷ []) (answer_moves g.messages (Some c.args.pair) c.args.response.now)
    (answer-one g.messages c.args.response.now c.args.pair m n there (c.in_ok-answered.ensures ∙ ap (with_response m) c.in_ok-said.ensures))
    (after-over s g put q n one)

pub returns-clause-came : goal.returns-clause-came
returns-clause-came c =
    let s = c.args.settings.now in
    let t = traffic_held (held_now c.args.index.now) in
    let g = c.args.index.now.groups in
    let h = c.answer_message.new.self.groups in
    let q = c.args.pair.request in
    let m = c.in-Some.message.now in
    let n = c.in_ok-answered.answered in
    let were = ap (λ (x : Holding). x.members) c.requires.held.held in
    let are = ap (λ (x : Holding). x.members) (c.in_ok-answer_message.ensures.held t c.requires.held.traffic c.requires.held.held) in
    let some : ◌≡◌ {A = Option Message} (Some m) (option_copied c.get.result) = search rules in
    let there : get t.messages q ≡ Some m = sym (some ∙ c.get.ensures ∙ stored-at c.args.index.now.messages.content q) in
    let waited : get t.messages q ≡ Some (without_response m) = there ∙ ap (λ r. Some (record m { response = r })) (c.requires.waits m there) in
    let none : get g.members.submits q ≡ None = ap (λ (x : Grouping). get x.submits q) were ∙ submit-there s q t (without_response m) waited in
    message-comes g h q c.in_ok-answer_message.ensures.vacant s t n were are none

pub returns-clause-touches : goal.returns-clause-touches
returns-clause-touches c = λ full.
    let s = c.args.settings.now in
    let t = traffic_held (held_now c.args.index.now) in
    let g = c.args.index.now.groups in
    let h = c.answer_message.new.self.groups in
    let q = c.args.pair.request in
    let m = c.in-Some.message.now in
    let n = c.in_ok-answered.answered in
    let were = ap (λ (x : Holding). x.members) c.requires.held.held in
    let are = ap (λ (x : Holding). x.members) (c.in_ok-answer_message.ensures.held t c.requires.held.traffic c.requires.held.held) in
    let some : ◌≡◌ {A = Option Message} (Some m) (option_copied c.get.result) = search rules in
    let there : get t.messages q ≡ Some m = sym (some ∙ c.get.ensures ∙ stored-at c.args.index.now.messages.content q) in
    let waited : get t.messages q ≡ Some (without_response m) = there ∙ ap (λ r. Some (record m { response = r })) (c.requires.waits m there) in
    let none : get g.members.submits q ≡ None = ap (λ (x : Grouping). get x.submits q) were ∙ submit-there s q t (without_response m) waited in
    let weighed = message-weighed g h q c.in_ok-answer_message.ensures.vacant s t n were are none full in
    omega (arith, weighed, c.in_ok-answer_message.ensures.weighs)
