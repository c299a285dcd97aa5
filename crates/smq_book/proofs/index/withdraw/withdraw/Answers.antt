use Rattle.std.proofs.Common.{◌≡◌, length, subst, ap, sym, ◌∙◌, arith}
use Rattle.std.specs.List.{sum_by}
use Rattle.std.proofs.lemmas.List.Sums.{sum_by-le-sum_by}
use Rattle.smq_kit.specs.declared.place.Dir.TheVariants.{FromCentre}
use Rattle.smq_tally.specs.declared.list.Listed.{Listed}
use Rattle.smq_present.specs.join.Listings.{AllTraffic}
use Rattle.smq_present.specs.pairing.Traffic.{place_of, session_notes}
use Rattle.smq_present.specs.within.Pairs.{from_session}
use Rattle.smq_book.specs.index.Touches.{message_load, receipt_load}
use Rattle.smq_book.specs.index.Held.{held_now}
use Rattle.smq_book.proofs.lemmas.index.Pushed.{after-both}
use Rattle.smq_present.proofs.lemmas.join.SessionLists.{session-lists}
use Rattle.smq_book.proofs.lemmas.index.Taken.{withdrawn-after}
use Rattle.smq_book.proofs.lemmas.index.Weights.{receipt-lighter}
use Rattle.smq_book.proofs.index.withdraw.withdraw.Goals as goal

pub take_notes-requires : goal.take_notes-requires
take_notes-requires c =
    let noted : c.as_slice.result.now ≡ session_notes (c.args.number.0, c.args.session.now) =
    c.as_slice.ensures.value ∙ c.in_ok-notes.ensures in
    subst AllTraffic (sym noted) (session-lists (c.args.number.0, c.args.session.now))

pub returns-clause-traffic : goal.returns-clause-traffic
returns-clause-traffic c =
    let s = c.settings-settings.result.now in
    let g = held_now c.args.index.now in
    let taken = held_now c.take_messages.new.index in
    let received = held_now c.take_receipts.new.index in
    let last = held_now c.take_notes.new.index in
    let noted : c.as_slice.result.now ≡ session_notes (c.args.number.0, c.args.session.now) =
    c.as_slice.ensures.value ∙ c.in_ok-notes.ensures in
    withdrawn-after c.args.present.now.sessions c.args.number.0 c.args.session.now c.requires.there s g last
    c.pdus.result.now c.pdus-2.result.now c.as_slice.result.now c.pdus.ensures c.pdus-2.ensures noted c.requires.traffic
    (after-both s g taken last c.in_ok-take_messages.ensures.held
    (after-both s taken received last c.in_ok-take_receipts.ensures.held
    (c.in_ok-take_notes.ensures.held s c.in_ok-take_receipts.ensures.held.held)))

pub returns-clause-touches : goal.returns-clause-touches
returns-clause-touches c =
    let g = c.args.index.now.groups in
    let h = c.take_messages.new.index.groups in
    let origin = from_session c.args.number in
    let noted : c.as_slice.result.now ≡ session_notes (c.args.number.0, c.args.session.now) =
    c.as_slice.ensures.value ∙ c.in_ok-notes.ensures in
    let messages = ap (sum_by (message_load g origin)) c.pdus.ensures in
    let receipts = ap (sum_by (receipt_load g origin)) c.pdus-2.ensures in
    let lighter = sum_by-le-sum_by (receipt_load h origin) (receipt_load g origin) c.pdus-2.result.now (λ p.
    (let less = receipt-lighter g h c.in_ok-take_messages.ensures.went (place_of origin FromCentre p) in omega (arith, less))) in
    let many = ap (length {A = Listed}) noted in
    omega (
      arith,
      messages,
      receipts,
      lighter,
      many,
      c.in_ok-take_messages.ensures.touches,
      c.in_ok-take_receipts.ensures.touches,
      c.in_ok-take_notes.ensures.touches,
    )
