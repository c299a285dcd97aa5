use Rattle.std.proofs.Common.{◌≡◌, List, take, Some, sym, ap, subst, ◌∙◌, arith}
use Rattle.std.proofs.lemmas.List.Sums.{sum_by-le-sum_by, sum_by_more}
use Rattle.smq_kit.specs.declared.place.Place.{Place}
use Rattle.smq_pair.specs.Growth.{IsNext, made_by, pushed}
use Rattle.smq_pair.specs.Pairing.{PairingValue, pair_at}
use Rattle.smq_pair.specs.declared.pairing.Pair.{Pair}
use Rattle.smq_present.specs.declared.present.kept.StoredPdu.{StoredPdu}
use Rattle.smq_present.specs.present.Kept.{kept_pdus}
use Rattle.smq_book.specs.index.Held.{held_now, traffic_held}
use Rattle.smq_book.specs.index.Touches.{pdu_load}
use Rattle.smq_book.specs.index.Pushed.{IsHeldAfter, IsUnsaid, centre_with, client_with, moves_by, origin_at, pdu_moves}
use Rattle.smq_present.specs.pairing.Traffic.{place_of, placed}
use Rattle.smq_present.specs.within.Pairs.{Rises, from_session}
use Rattle.smq_present.proofs.lemmas.pairing.PlacesRise.{kept-rise}
use Rattle.smq_present.proofs.lemmas.pairing.PairsStay.{pair-stays}
use Rattle.smq_book.proofs.lemmas.index.Comes.{both-come, pdu-heavier, still-none}
use Rattle.smq_book.proofs.lemmas.index.Pushed.{after-same}
use Rattle.smq_book.proofs.lemmas.index.Rises.{both-rise}
use Rattle.smq_book.proofs.lemmas.index.Item.{comes-next, held-more, moves-more, pairs-more, said-more, unsaid}
use Rattle.smq_book.proofs.index.append.push_all.Goals as goal

pub push_pdu-requires-clause-unsaid : goal.push_pdu-requires-clause-unsaid
push_pdu-requires-clause-unsaid c =
    let s = c.args.session.now in
    let origin = origin_at c.args.number s.link in
    let x = c.pdu-item.result in
    let t = traffic_held (held_now c.loop-pdu.index) in
    subst (λ (v : PairingValue). IsUnsaid t origin c.args.dir x (made_by v (placed origin c.args.dir x))) (sym c.loop-pdu.invariant.pairs)
    (unsaid origin s c.args.pdus.now c.loop-pdu.pdu-index x c.loop-pdu-test.true c.pdu-item.is t c.args.dir c.requires.rises
    c.loop-pdu.invariant.held.held.traffic c.loop-pdu.invariant.said)

pub push_pdu-requires-clause-next : goal.push_pdu-requires-clause-next
push_pdu-requires-clause-next c =
    let s = c.args.session.now in
    let origin = origin_at c.args.number s.link in
    let x = c.pdu-item.result in
    subst (λ (v : PairingValue). IsNext v (place_of origin c.args.dir x)) (sym c.loop-pdu.invariant.pairs)
    (comes-next origin s c.args.pdus.now c.loop-pdu.pdu-index x c.loop-pdu-test.true c.pdu-item.is c.args.dir c.requires.rises)

pub push_pdu-requires-clause-centre : goal.push_pdu-requires-clause-centre
push_pdu-requires-clause-centre c =
    subst (λ (ps : List StoredPdu). Rises 0 ps) (sym c.pdus-centre.ensures) (kept-rise c.args.session.now.centre)

-- What the PDU leaves is what it leaves among those that came, and so it is with those that come next.
pub loop-pdu-preserved : goal.loop-pdu-preserved
loop-pdu-preserved c =
    let s = c.args.session.now in
    let dir = c.args.dir in
    let origin = origin_at c.args.number s.link in
    let client = kept_pdus s.client in
    let centre = kept_pdus s.centre in
    let pdus = c.args.pdus.now in
    let i = c.loop-pdu.pdu-index in
    let x = c.pdu-item.result in
    let before = held_now c.loop-pdu.index in
    let after = held_now c.push_pdu.new.index in
    let was = c.loop-pdu.invariant in
    let moves = pdu_moves origin dir (client_with dir client (take i pdus)) (centre_with dir centre (take i pdus)) x in
    let step : IsHeldAfter c.args.settings.now before moves after =
    after-same c.args.settings.now before after
    (moves_by origin dir before.messages c.pdus-centre.result.now x (made_by c.loop-pdu.pairing.pdus (placed origin dir x))) moves
    ((λ j. moves_by origin dir before.messages (c.pdus-centre.ensures j) x (made_by (was.pairs j) (placed origin dir x)))
    ∙ moves-more origin s pdus i x c.loop-pdu-test.true c.pdu-item.is (traffic_held before) dir c.requires.rises c.requires.asks
    was.held.held.traffic was.said) c.in_ok-push_pdu.ensures.held in
    record {
      held = held-more origin s pdus i x c.loop-pdu-test.true c.pdu-item.is dir c.args.settings.now (held_now c.args.index.now) before after
          was.held step;
      said = said-more origin s pdus i x c.loop-pdu-test.true c.pdu-item.is (traffic_held before) dir c.requires.rises was.said
          (traffic_held after) step.traffic;
      pairs = c.in_ok-push_pdu.ensures.pairs
          ∙ ap (λ (v : PairingValue). pushed v (placed origin dir x)) was.pairs
          ∙ pairs-more origin s pdus i x c.loop-pdu-test.true c.pdu-item.is dir;
      settled = c.push_pdu.ensures.settled ∙ was.settled;
      settled_pairs = c.push_pdu.ensures.settled_pairs ∙ was.settled_pairs;
      came = both-come c.args.index.now.groups c.loop-pdu.index.groups c.push_pdu.new.index.groups was.came
          c.in_ok-push_pdu.ensures.came;
      touches = λ full.
          let from = from_session c.args.number in
          let v = c.loop-pdu.pairing.pdus in
          let w = c.push_pdu.new.pairing.pdus in
          let g = c.loop-pdu.index.groups in
          let h = c.push_pdu.new.index.groups in
          let stays : (q : Place) (pair : Pair) → pair_at v q ≡ Some pair → pair_at w q ≡ Some pair = λ q pair is.
          subst (λ (x : PairingValue). pair_at x q ≡ Some pair) (sym c.in_ok-push_pdu.ensures.pairs) (pair-stays v (placed from dir x) q pair is) in
          let so_far = was.touches full in
          let this = c.in_ok-push_pdu.ensures.touches (still-none c.args.index.now.groups g was.came full) in
          let heavier = sum_by-le-sum_by (pdu_load g.members v from dir) (pdu_load h.members w from dir) (take i pdus)
          (pdu-heavier g h c.in_ok-push_pdu.ensures.came v w stays from dir) in
          let more = sum_by_more (pdu_load h.members w from dir) pdus i x c.loop-pdu-test.true in
          let here = ap (pdu_load h.members w from dir) c.pdu-item.is in
          omega (arith, so_far, this, heavier, more, here);
      pairs_counted = omega (arith, c.push_pdu.ensures.pairs_counted, was.pairs_counted);
      rises = both-rise c.args.index.now c.loop-pdu.index c.push_pdu.new.index was.rises c.in_ok-push_pdu.ensures.rises;
    }
