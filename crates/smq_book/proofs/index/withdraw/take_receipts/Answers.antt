use Rattle.std.proofs.Common.{ap, ◌∙◌, arith}
use Rattle.std.proofs.lemmas.List.Sums.{sum_by_more}
use Rattle.smq_kit.specs.declared.place.Dir.TheVariants.{FromCentre}
use Rattle.smq_book.specs.index.Held.{held_now}
use Rattle.smq_book.specs.index.Taken.{receipt_take}
use Rattle.smq_book.specs.index.Touches.{receipt_load}
use Rattle.smq_present.specs.pairing.Traffic.{place_of}
use Rattle.smq_present.specs.within.Pairs.{from_session}
use Rattle.smq_book.proofs.lemmas.index.Taken.{next-taken}
use Rattle.smq_book.proofs.lemmas.index.Weights.{both-go, receipt-lighter}
use Rattle.smq_book.proofs.lemmas.index.Rises.{both-rise}
use Rattle.smq_book.proofs.index.withdraw.take_receipts.Goals as goal

pub loop-pdu-preserved : goal.loop-pdu-preserved
loop-pdu-preserved c = record {
  held = next-taken c.args.settings.now (held_now c.args.index.now) (receipt_take (from_session c.args.number)) c.args.centre.now
      c.loop-pdu.pdu-index c.pdu-item.result (held_now c.loop-pdu.index) (held_now c.take_received.new.index) c.loop-pdu-test.true
      c.pdu-item.is c.loop-pdu.invariant.held c.in_ok-take_received.ensures.held;
  settled = c.take_received.ensures.settled ∙ c.loop-pdu.invariant.settled;
  went = both-go c.args.index.now.groups c.loop-pdu.index.groups c.take_received.new.index.groups c.loop-pdu.invariant.went
      c.in_ok-take_received.ensures.went;
  touches = (let f = receipt_load c.args.index.now.groups (from_session c.args.number) in
      let more = sum_by_more f c.args.centre.now c.loop-pdu.pdu-index c.pdu-item.result c.loop-pdu-test.true in
      let this = ap f c.pdu-item.is in
      let less = receipt-lighter c.args.index.now.groups c.loop-pdu.index.groups c.loop-pdu.invariant.went
      (place_of (from_session c.args.number) FromCentre c.pdu-item.result) in
      omega (arith, more, this, less, c.loop-pdu.invariant.touches, c.in_ok-take_received.ensures.touches));
  rises = both-rise c.args.index.now c.loop-pdu.index c.take_received.new.index c.loop-pdu.invariant.rises
      c.in_ok-take_received.ensures.rises;
}
