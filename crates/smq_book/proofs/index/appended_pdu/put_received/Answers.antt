use Rattle.std.proofs.Common.{◌≡◌, [], ◌∷◌, Option, Some, None, refl, ap, ◌∙◌, rules, arith}
use Rattle.std.specs.FinMap.{get}
use Rattle.std.specs.Option.{option_map}
use Rattle.std.specs.Arc.{arc_value}
use Rattle.smq_kit.specs.declared.place.Place.{Place}
use Rattle.smq_receipt.specs.declared.reading.Receipt.{Receipt}
use Rattle.smq_group.specs.Matching.{Grouping}
use Rattle.smq_book.specs.index.Held.{Holding, held_now, traffic_held}
use Rattle.smq_book.specs.index.Pushed.{origin_at, receipt_moves}
use Rattle.smq_book.specs.index.Touches.{members_at, receipt_key_at}
use Rattle.smq_present.specs.join.Moves.{PutReceipt}
use Rattle.smq_present.specs.pairing.Traffic.{ReceivedReceipt, received}
use Rattle.smq_book.proofs.lemmas.index.Comes.{received-comes, received-weighed}
use Rattle.smq_book.proofs.lemmas.index.Members.{receipt-absent}
use Rattle.smq_book.proofs.lemmas.index.Pushed.{after-one, after-same, receipt-one}
use Rattle.smq_book.proofs.index.appended_pdu.put_received.Goals as goal

pub returns-clause-held : goal.returns-clause-held
returns-clause-held c =
    let s = c.args.settings.now in
    let g = held_now c.args.index.now in
    let h = held_now c.put_receipt.new.self in
    let next = c.args.pdu.now in
    let origin = origin_at c.args.session c.args.link in
    let q = c.place_of.result in
    let receipt = arc_value c.in-Some.receipt in
    let r : ReceivedReceipt = received origin next receipt in
    let some : ◌≡◌ {A = Option Receipt} (Some receipt) (option_map arc_value c.in_ok-receipt.field-0) = search rules in
    after-same s g h (PutReceipt (q, r) ∷ []) (receipt_moves origin next)
    (receipt-one origin next receipt q r c.place_of.ensures refl (some ∙ c.in_ok-receipt.ensures))
    (after-one s g h (PutReceipt (q, r)) c.requires.held (ap (λ (q : Place). q.dir) c.place_of.ensures)
    (c.in_ok-put_receipt.ensures.held (traffic_held g) c.requires.held.traffic c.requires.held.held))

pub returns-clause-came : goal.returns-clause-came
returns-clause-came c =
    let s = c.args.settings.now in
    let t = traffic_held (held_now c.args.index.now) in
    let g = c.args.index.now.groups in
    let h = c.put_receipt.new.self.groups in
    let q = c.place_of.result in
    let r : ReceivedReceipt = received (origin_at c.args.session c.args.link) c.args.pdu.now (arc_value c.in-Some.receipt) in
    let were = ap (λ (x : Holding). x.members) c.requires.held.held in
    let are = ap (λ (x : Holding). x.members) (c.in_ok-put_receipt.ensures.held t c.requires.held.traffic c.requires.held.held) in
    let absent : get t.receipts q ≡ None = ap (get t.receipts) c.place_of.ensures ∙ c.requires.absent in
    let none = ap (λ (x : Grouping). get x.receipts q) were ∙ receipt-absent s q t absent in
    received-comes g h q c.in_ok-put_receipt.ensures.vacant s t r were are none

pub returns-clause-touches : goal.returns-clause-touches
returns-clause-touches c = λ full.
    let s = c.args.settings.now in
    let t = traffic_held (held_now c.args.index.now) in
    let g = c.args.index.now.groups in
    let h = c.put_receipt.new.self.groups in
    let q = c.place_of.result in
    let r : ReceivedReceipt = received (origin_at c.args.session c.args.link) c.args.pdu.now (arc_value c.in-Some.receipt) in
    let were = ap (λ (x : Holding). x.members) c.requires.held.held in
    let are = ap (λ (x : Holding). x.members) (c.in_ok-put_receipt.ensures.held t c.requires.held.traffic c.requires.held.held) in
    let absent : get t.receipts q ≡ None = ap (get t.receipts) c.place_of.ensures ∙ c.requires.absent in
    let none = ap (λ (x : Grouping). get x.receipts q) were ∙ receipt-absent s q t absent in
    let weighed = received-weighed g h q c.in_ok-put_receipt.ensures.vacant s t r were are none full in
    let here = ap (λ (q : Place). members_at h.members (receipt_key_at h.members q)) c.place_of.ensures in
    omega (arith, weighed, here, c.in_ok-put_receipt.ensures.weighs)
