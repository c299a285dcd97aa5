use Rattle.std.proofs.Common.{◌≡◌, ◌+◌, ◌++◌, List, ◌∷◌, drop, get_or, sym, ap, ◌∙◌, arith}
use Rattle.std.specs.Prelude.{map}
use Rattle.std.proofs.lemmas.List.{append_assoc, drop_more}
use Rattle.std.proofs.lemmas.List.Sums.{sum_by_more}
use Rattle.smq_kit.specs.declared.place.Dir.TheVariants.{FromClient}
use Rattle.smq_kit.specs.declared.place.Place.{Place}
use Rattle.smq_book.specs.declared.index.stored.Item.{Item}
use Rattle.smq_book.specs.index.Held.{held_now, traffic_held}
use Rattle.smq_book.specs.index.LinkOut.{found_at, found_in_turn, take_at}
use Rattle.smq_book.specs.index.Touches.{taken_load}
use Rattle.smq_present.specs.join.Moves.{moved_by}
use Rattle.smq_present.specs.pairing.Traffic.{TrafficValue}
use Rattle.smq_book.proofs.lemmas.index.LinkOut.{moves-more}
use Rattle.smq_book.proofs.lemmas.index.Weights.{both-go, load-lighter}
use Rattle.smq_book.proofs.lemmas.index.Rises.{both-rise}
use Rattle.smq_book.proofs.index.forms.take_all.Goals as goal

-- the place that is read past the end of a list
abbrev none : Place
none = record { session = record { 0 = 0 }; dir = FromClient; offset = 0 }

pub loop-place-preserved : goal.loop-place-preserved
loop-place-preserved c =
    let first = traffic_held (held_now c.args.index.now) in
    let t = traffic_held (held_now c.loop-place.index) in
    let u = traffic_held (held_now c.take_one.new.index) in
    let xs = c.args.places.now in
    let i = c.loop-place.place-index in
    let q = get_or xs i none in
    let rest = drop (i + 1) xs in
    let after = c.in_ok-take_one.ensures.held in
    let next : drop i xs ≡ q ∷ rest = drop_more xs i none c.loop-place-test.true in
    record {
      held = after.held;
      traffic = moves-more t u (take_at q) (map take_at (drop i xs)) (map take_at rest) (moved_by first (map take_at xs)) after.traffic
          (ap (map take_at) next) c.loop-place.invariant.traffic;
      taken = ap (λ (es : List (Place × Item)). es ++ found_in_turn u rest) c.in_ok-take_one.ensures.taken
          ∙ append_assoc c.loop-place.taken.items (found_at t q) (found_in_turn u rest)
          ∙ ap (λ (w : TrafficValue). c.loop-place.taken.items ++ (found_at t q ++ found_in_turn w rest)) after.traffic
          ∙ ap (λ (qs : List Place). c.loop-place.taken.items ++ found_in_turn t qs) (sym next)
          ∙ c.loop-place.invariant.taken;
      settled = c.take_one.ensures.settled ∙ c.loop-place.invariant.settled;
      went = both-go c.args.index.now.groups c.loop-place.index.groups c.take_one.new.index.groups c.loop-place.invariant.went
          c.in_ok-take_one.ensures.went;
      touches = (let more = sum_by_more (taken_load c.args.index.now.groups) xs i none c.loop-place-test.true in
          let less = load-lighter c.args.index.now.groups c.loop-place.index.groups c.loop-place.invariant.went q in
          omega (arith, more, less, c.loop-place.invariant.touches, c.in_ok-take_one.ensures.touches));
      rises = both-rise c.args.index.now c.loop-place.index c.take_one.new.index c.loop-place.invariant.rises c.in_ok-take_one.ensures.rises;
    }
