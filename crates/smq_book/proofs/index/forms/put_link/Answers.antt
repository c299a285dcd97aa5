use Rattle.std.proofs.Common.{◌≡◌, ◌≤◌, ◌∷◌, List, sym, ap, subst, ◌∙◌, arith}
use Rattle.std.specs.List.{AllByRecursion, sum_by}
use Rattle.std.specs.Prelude.{map}
use Rattle.std.specs.Vec.Iter.{into_iter_items}
use Rattle.std.proofs.lemmas.List.Sums.{sum_by-cons}
use Rattle.smq_kit.specs.declared.link_key.LinkKey.{LinkKey}
use Rattle.smq_kit.specs.declared.place.Place.{Place}
use Rattle.smq_book.specs.declared.index.stored.Item.{Item}
use Rattle.smq_book.specs.edits.Reach.{members}
use Rattle.smq_book.specs.index.Coming.{AreNew}
use Rattle.smq_book.specs.index.Held.{KeepsTraffic, held_now, traffic_held}
use Rattle.smq_book.specs.index.LinkOut.{put_of}
use Rattle.smq_book.specs.index.Touches.{put_load, said_key}
use Rattle.smq_present.specs.join.Moves.{moved_by}
use Rattle.smq_present.specs.pairing.Traffic.{TrafficValue}
use Rattle.smq_book.proofs.lemmas.index.Comes.{both-come}
use Rattle.smq_book.proofs.lemmas.index.FormCosts.{walks-more}
use Rattle.smq_book.proofs.lemmas.index.LinkOut.{moves-more}
use Rattle.smq_book.proofs.lemmas.index.Rises.{both-rise}
use Rattle.smq_book.proofs.index.forms.put_link.Goals as goal

pub loop-place-preserved : goal.loop-place-preserved
loop-place-preserved c =
    let t = traffic_held (held_now c.loop-place.index) in
    let u = traffic_held (held_now c.put.new.self) in
    let g = c.args.index.now.groups in
    let here = c.loop-place.index.groups in
    let e : Place × Item = (c.in-Some.place, c.in-Some.said) in
    let rest = into_iter_items c.next.new.self in
    let after = c.in_ok-put.ensures.held in
    let come = c.in_ok-put.ensures.came in
    let next : into_iter_items c.loop-place.place-iterator ≡ e ∷ rest = c.in-Some.ensures.steps.0 in
    let stand = subst (AllByRecursion (λ (e : Place × Item). KeepsTraffic (put_of e))) next c.loop-place.invariant.stand in
    let new = subst (λ (es : List (Place × Item)). AreNew t (map put_of es)) next c.loop-place.invariant.new in
    record {
      held = after.held;
      traffic = moves-more t u (put_of e) (map put_of (into_iter_items c.loop-place.place-iterator)) (map put_of rest)
          (moved_by (traffic_held (held_now c.args.index.now)) (map put_of c.args.taken.items)) after.traffic (ap (map put_of) next)
          c.loop-place.invariant.traffic;
      stand = stand.1;
      new = subst (λ (w : TrafficValue). AreNew w (map put_of rest)) (sym after.traffic) new.1;
      settled = c.put.ensures.settled ∙ c.loop-place.invariant.settled;
      came = both-come g here c.put.new.self.groups c.loop-place.invariant.came come;
      touches = λ n fewer.
          let less : (k : LinkKey) → members here.members k ≤ members n k = λ k. (let a = come.more k in let b = fewer k in omega (arith, a, b)) in
          let before = c.loop-place.invariant.touches n less in
          let f = put_load g n c.args.settings.now in
          let sums = ap (sum_by f) next ∙ sum_by-cons f e rest in
          let walked = walks-more g here c.loop-place.invariant.came n less (said_key c.args.settings.now c.in-Some.said) in
          omega (arith, before, sums, walked, c.in_ok-put.ensures.touches);
      rises = both-rise c.args.index.now c.loop-place.index c.put.new.self c.loop-place.invariant.rises c.in_ok-put.ensures.rises;
    }
