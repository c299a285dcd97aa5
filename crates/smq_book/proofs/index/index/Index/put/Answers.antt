use Rattle.std.proofs.Common.{[], ◌∷◌, sym, ap, subst, ◌∙◌, arith}
use Rattle.std.specs.FinMap.{get}
use Rattle.smq_group.specs.Matching.{Grouping}
use Rattle.smq_book.specs.declared.index.stored.Item.{Item}
use Rattle.smq_book.specs.index.Coming.{IsNew}
use Rattle.smq_book.specs.index.Held.{Holding, KeepsTraffic, held_now, traffic_held}
use Rattle.smq_book.specs.index.LinkOut.{put_in}
use Rattle.smq_book.specs.index.Touches.{load_of, said_key}
use Rattle.smq_present.specs.join.Moves.{PutMessage, PutReceipt}
use Rattle.smq_book.proofs.lemmas.index.Comes.{message-comes, received-comes}
use Rattle.smq_book.proofs.lemmas.index.Followed.{are-held, unknown-before}
use Rattle.smq_book.proofs.lemmas.index.Members.{no-message, no-receipt, receipt-absent, submit-absent}
use Rattle.smq_book.proofs.lemmas.index.Pushed.{after-one, after-same}
use Rattle.smq_book.proofs.index.index.Index.put.Goals as goal

pub put_message-requires-clause-are : goal.put_message-requires-clause-are
put_message-requires-clause-are c =
    are-held c.args.settings.now (traffic_held (held_now c.args.self.now)) c.args.self.now c.requires.held.traffic c.requires.held.held

pub put_message-requires-clause-dir : goal.put_message-requires-clause-dir
put_message-requires-clause-dir c = subst (λ (x : Item). KeepsTraffic (put_in c.args.place x)) c.in-Message.is c.requires.stands

pub put_message-requires-clause-absent : goal.put_message-requires-clause-absent
put_message-requires-clause-absent c = subst (λ (x : Item). IsNew (traffic_held (held_now c.args.self.now)) (put_in c.args.place x)) c.in-Message.is c.requires.new

pub put_message-requires-clause-apart : goal.put_message-requires-clause-apart
put_message-requires-clause-apart c =
    no-receipt (traffic_held (held_now c.args.self.now)) c.requires.held.traffic c.args.place (put_message-requires-clause-dir c)

pub put_message-requires-clause-unknown : goal.put_message-requires-clause-unknown
put_message-requires-clause-unknown c =
    unknown-before c.args.settings.now (traffic_held (held_now c.args.self.now)) c.args.self.now c.requires.held.held c.args.place
    (put_message-requires-clause-absent c)

pub returns-in_ok-put_message-in-Message-clause-held : goal.returns-in_ok-put_message-in-Message-clause-held
returns-in_ok-put_message-in-Message-clause-held c =
    let s = c.args.settings.now in
    let g = held_now c.args.self.now in
    let h = held_now c.put_message.new.self in
    let move = PutMessage (c.args.place, c.in-Message.message) in
    after-same s g h (move ∷ []) (put_in c.args.place c.args.said ∷ []) (ap (λ (x : Item). put_in c.args.place x ∷ []) (sym c.in-Message.is))
    (after-one s g h move c.requires.held (subst (λ (x : Item). KeepsTraffic (put_in c.args.place x)) c.in-Message.is c.requires.stands)
    (c.in_ok-put_message-in-Message.ensures.held (traffic_held g) c.requires.held.traffic c.requires.held.held))

pub returns-in_ok-put_message-in-Message-clause-came : goal.returns-in_ok-put_message-in-Message-clause-came
returns-in_ok-put_message-in-Message-clause-came c =
    let s = c.args.settings.now in
    let i = c.args.self.now in
    let q = c.args.place in
    let t = traffic_held (held_now i) in
    let were = ap (λ (h : Holding). h.members) c.requires.held.held in
    let are = ap (λ (h : Holding). h.members) (c.in_ok-put_message-in-Message.ensures.held t c.requires.held.traffic c.requires.held.held) in
    message-comes i.groups c.put_message.new.self.groups q c.in_ok-put_message-in-Message.ensures.vacant s t c.in-Message.message were are
    (ap (λ (g : Grouping). get g.submits q) were ∙ submit-absent s q t
    (subst (λ (x : Item). IsNew t (put_in q x)) c.in-Message.is c.requires.new))

pub returns-in_ok-put_message-in-Message-clause-touches : goal.returns-in_ok-put_message-in-Message-clause-touches
returns-in_ok-put_message-in-Message-clause-touches c =
    let key = ap (λ (x : Item). load_of c.args.self.now.groups (said_key c.args.settings.now x)) c.in-Message.is in
    omega (arith, key, c.in_ok-put_message-in-Message.ensures.weighs)

pub put_receipt-requires-clause-are : goal.put_receipt-requires-clause-are
put_receipt-requires-clause-are c =
    are-held c.args.settings.now (traffic_held (held_now c.args.self.now)) c.args.self.now c.requires.held.traffic c.requires.held.held

pub put_receipt-requires-clause-dir : goal.put_receipt-requires-clause-dir
put_receipt-requires-clause-dir c = subst (λ (x : Item). KeepsTraffic (put_in c.args.place x)) c.in-Receipt.is c.requires.stands

pub put_receipt-requires-clause-absent : goal.put_receipt-requires-clause-absent
put_receipt-requires-clause-absent c = subst (λ (x : Item). IsNew (traffic_held (held_now c.args.self.now)) (put_in c.args.place x)) c.in-Receipt.is c.requires.new

pub put_receipt-requires-clause-apart : goal.put_receipt-requires-clause-apart
put_receipt-requires-clause-apart c =
    no-message (traffic_held (held_now c.args.self.now)) c.requires.held.traffic c.args.place (put_receipt-requires-clause-dir c)

pub returns-in_ok-put_receipt-in-Receipt-clause-held : goal.returns-in_ok-put_receipt-in-Receipt-clause-held
returns-in_ok-put_receipt-in-Receipt-clause-held c =
    let s = c.args.settings.now in
    let g = held_now c.args.self.now in
    let h = held_now c.put_receipt.new.self in
    let move = PutReceipt (c.args.place, c.in-Receipt.receipt) in
    after-same s g h (move ∷ []) (put_in c.args.place c.args.said ∷ []) (ap (λ (x : Item). put_in c.args.place x ∷ []) (sym c.in-Receipt.is))
    (after-one s g h move c.requires.held (subst (λ (x : Item). KeepsTraffic (put_in c.args.place x)) c.in-Receipt.is c.requires.stands)
    (c.in_ok-put_receipt-in-Receipt.ensures.held (traffic_held g) c.requires.held.traffic c.requires.held.held))

pub returns-in_ok-put_receipt-in-Receipt-clause-came : goal.returns-in_ok-put_receipt-in-Receipt-clause-came
returns-in_ok-put_receipt-in-Receipt-clause-came c =
    let s = c.args.settings.now in
    let i = c.args.self.now in
    let q = c.args.place in
    let t = traffic_held (held_now i) in
    let were = ap (λ (h : Holding). h.members) c.requires.held.held in
    let are = ap (λ (h : Holding). h.members) (c.in_ok-put_receipt-in-Receipt.ensures.held t c.requires.held.traffic c.requires.held.held) in
    received-comes i.groups c.put_receipt.new.self.groups q c.in_ok-put_receipt-in-Receipt.ensures.vacant s t c.in-Receipt.receipt were are
    (ap (λ (g : Grouping). get g.receipts q) were ∙ receipt-absent s q t
    (subst (λ (x : Item). IsNew t (put_in q x)) c.in-Receipt.is c.requires.new))

pub returns-in_ok-put_receipt-in-Receipt-clause-touches : goal.returns-in_ok-put_receipt-in-Receipt-clause-touches
returns-in_ok-put_receipt-in-Receipt-clause-touches c =
    let key = ap (λ (x : Item). load_of c.args.self.now.groups (said_key c.args.settings.now x)) c.in-Receipt.is in
    omega (arith, key, c.in_ok-put_receipt-in-Receipt.ensures.weighs)
