use Rattle.std.proofs.Common.{◌≡◌, [], ◌∷◌, Option, Some, sym, ap, ◌∙◌, rules}
use Rattle.std.specs.Option.{option_copied}
use Rattle.smq_receipt.specs.declared.reading.Receipt.{Receipt}
use Rattle.smq_book.specs.index.Held.{held_now, traffic_held, Holding}
use Rattle.smq_book.specs.index.Taken.{receipt_take}
use Rattle.smq_present.specs.join.Moves.{TakeReceipt}
use Rattle.smq_present.specs.within.Pairs.{from_session}
use Rattle.smq_book.proofs.lemmas.index.Pushed.{after-one, after-same}
use Rattle.smq_book.proofs.lemmas.index.Taken.{receipt-taken}
use Rattle.smq_group.specs.Groups.{without_receipt}
use Rattle.smq_group.specs.Matching.{Grouping}
use Rattle.smq_book.proofs.lemmas.index.Members.{received-taken}
use Rattle.smq_book.proofs.lemmas.index.Weights.{receipt-goes}
use Rattle.smq_book.proofs.index.withdraw.take_received.Goals as goal

pub returns-clause-held : goal.returns-clause-held
returns-clause-held c =
    let s = c.args.settings.now in
    let g = held_now c.args.index.now in
    let h = held_now c.take_receipt.new.self in
    let origin = from_session c.args.number in
    let q = c.place_of.result in
    let receipt = c.in-Some.field-0.now in
    let some : ◌≡◌ {A = Option Receipt} (Some receipt) (option_copied c.receipt.result) = search rules in
    after-same s g h (TakeReceipt q ∷ []) (receipt_take origin c.args.pdu.now)
    (receipt-taken origin c.args.pdu.now q receipt c.place_of.ensures (some ∙ c.receipt.ensures))
    (after-one s g h (TakeReceipt q) c.requires tt
    (c.in_ok-take_receipt.ensures.held (traffic_held g) c.requires.traffic c.requires.held))

pub returns-clause-went : goal.returns-clause-went
returns-clause-went c =
    let s = c.args.settings.now in
    let g = held_now c.args.index.now in
    let t = traffic_held g in
    let q = c.place_of.result in
    let is = ap (λ (h : Holding). h.members) (c.in_ok-take_receipt.ensures.held t c.requires.traffic c.requires.held)
    ∙ received-taken s q t
    ∙ ap (λ (x : Grouping). without_receipt x q) (sym (ap (λ (h : Holding). h.members) c.requires.held)) in
    receipt-goes c.args.index.now.groups c.take_receipt.new.self.groups q is c.in_ok-take_receipt.ensures.vacant
