use Rattle.std.proofs.Common.{◌≡◌, [], ◌∷◌, List, sym, ap, ◌∙◌}
use Rattle.smq_kit.specs.declared.place.Dir.{Dir}
use Rattle.smq_group.specs.Groups.{without_receipt, without_submit}
use Rattle.smq_group.specs.Matching.{Grouping}
use Rattle.smq_book.specs.index.Held.{Holding, held_now, traffic_held}
use Rattle.smq_book.specs.index.LinkOut.{take_at, take_in}
use Rattle.smq_present.specs.join.Moves.{Move, TakeMessage, TakeReceipt}
use Rattle.smq_book.proofs.lemmas.index.Members.{members-taken, received-taken}
use Rattle.smq_book.proofs.lemmas.index.Pushed.{after-one, after-same}
use Rattle.smq_book.proofs.lemmas.index.Weights.{receipt-goes, submit-goes}
use Rattle.smq_book.proofs.index.index.Index.take.Goals as goal

pub returns-in_ok-take_message-in-FromClient-clause-held : goal.returns-in_ok-take_message-in-FromClient-clause-held
returns-in_ok-take_message-in-FromClient-clause-held c =
    let s = c.args.settings.now in
    let g = held_now c.args.self.now in
    let h = held_now c.take_message.new.self in
    let q = c.args.place in
    let same : ◌≡◌ {A = List Move} (TakeMessage q ∷ []) (take_at q ∷ []) = ap (λ (d : Dir). take_in d q ∷ []) (sym c.in-FromClient.is) in
    after-same s g h (TakeMessage q ∷ []) (take_at q ∷ []) same
    (after-one s g h (TakeMessage q) c.requires tt
    (c.in_ok-take_message-in-FromClient.ensures.held (traffic_held g) c.requires.traffic c.requires.held))

pub returns-in_ok-take_message-in-FromClient-clause-went : goal.returns-in_ok-take_message-in-FromClient-clause-went
returns-in_ok-take_message-in-FromClient-clause-went c =
    let s = c.args.settings.now in
    let t = traffic_held (held_now c.args.self.now) in
    let q = c.args.place in
    let is = ap (λ (h : Holding). h.members) (c.in_ok-take_message-in-FromClient.ensures.held t c.requires.traffic c.requires.held)
    ∙ members-taken s q t
    ∙ ap (λ (x : Grouping). without_submit x q) (sym (ap (λ (h : Holding). h.members) c.requires.held)) in
    submit-goes c.args.self.now.groups c.take_message.new.self.groups q is c.in_ok-take_message-in-FromClient.ensures.vacant

pub returns-in_ok-take_receipt-in-FromCentre-clause-held : goal.returns-in_ok-take_receipt-in-FromCentre-clause-held
returns-in_ok-take_receipt-in-FromCentre-clause-held c =
    let s = c.args.settings.now in
    let g = held_now c.args.self.now in
    let h = held_now c.take_receipt.new.self in
    let q = c.args.place in
    let same : ◌≡◌ {A = List Move} (TakeReceipt q ∷ []) (take_at q ∷ []) = ap (λ (d : Dir). take_in d q ∷ []) (sym c.in-FromCentre.is) in
    after-same s g h (TakeReceipt q ∷ []) (take_at q ∷ []) same
    (after-one s g h (TakeReceipt q) c.requires tt
    (c.in_ok-take_receipt-in-FromCentre.ensures.held (traffic_held g) c.requires.traffic c.requires.held))

pub returns-in_ok-take_receipt-in-FromCentre-clause-went : goal.returns-in_ok-take_receipt-in-FromCentre-clause-went
returns-in_ok-take_receipt-in-FromCentre-clause-went c =
    let s = c.args.settings.now in
    let t = traffic_held (held_now c.args.self.now) in
    let q = c.args.place in
    let is = ap (λ (h : Holding). h.members) (c.in_ok-take_receipt-in-FromCentre.ensures.held t c.requires.traffic c.requires.held)
    ∙ received-taken s q t
    ∙ ap (λ (x : Grouping). without_receipt x q) (sym (ap (λ (h : Holding). h.members) c.requires.held)) in
    receipt-goes c.args.self.now.groups c.take_receipt.new.self.groups q is c.in_ok-take_receipt-in-FromCentre.ensures.vacant
