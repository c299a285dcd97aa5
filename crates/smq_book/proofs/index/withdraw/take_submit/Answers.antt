use Rattle.std.proofs.Common.{◌≡◌, [], ◌∷◌, Option, Some, sym, ap, ◌∙◌, rules}
use Rattle.std.specs.Option.{option_copied}
use Rattle.smq_pdu.specs.declared.body.Submit.{Submit}
use Rattle.smq_book.specs.index.Held.{held_now, traffic_held, Holding}
use Rattle.smq_book.specs.index.Taken.{submit_take}
use Rattle.smq_present.specs.join.Moves.{TakeMessage}
use Rattle.smq_present.specs.within.Pairs.{from_session}
use Rattle.smq_book.proofs.lemmas.index.Pushed.{after-one, after-same}
use Rattle.smq_book.proofs.lemmas.index.Taken.{submit-taken}
use Rattle.smq_group.specs.Groups.{without_submit}
use Rattle.smq_group.specs.Matching.{Grouping}
use Rattle.smq_book.proofs.lemmas.index.Members.{members-taken}
use Rattle.smq_book.proofs.lemmas.index.Weights.{submit-goes}
use Rattle.smq_book.proofs.index.withdraw.take_submit.Goals as goal

pub returns-clause-held : goal.returns-clause-held
returns-clause-held c =
    let s = c.args.settings.now in
    let g = held_now c.args.index.now in
    let h = held_now c.take_message.new.self in
    let origin = from_session c.args.number in
    let q = c.place_of.result in
    let submit = c.in-Some.field-0.now in
    let some : ◌≡◌ {A = Option Submit} (Some submit) (option_copied c.submit.result) = search rules in
    after-same s g h (TakeMessage q ∷ []) (submit_take origin c.args.pdu.now)
    (submit-taken origin c.args.pdu.now q submit c.place_of.ensures (some ∙ c.submit.ensures))
    (after-one s g h (TakeMessage q) c.requires tt
    (c.in_ok-take_message.ensures.held (traffic_held g) c.requires.traffic c.requires.held))

pub returns-clause-went : goal.returns-clause-went
returns-clause-went c =
    let s = c.args.settings.now in
    let g = held_now c.args.index.now in
    let t = traffic_held g in
    let q = c.place_of.result in
    let is = ap (λ (h : Holding). h.members) (c.in_ok-take_message.ensures.held t c.requires.traffic c.requires.held)
    ∙ members-taken s q t
    ∙ ap (λ (x : Grouping). without_submit x q) (sym (ap (λ (h : Holding). h.members) c.requires.held)) in
    submit-goes c.args.index.now.groups c.take_message.new.self.groups q is c.in_ok-take_message.ensures.vacant
