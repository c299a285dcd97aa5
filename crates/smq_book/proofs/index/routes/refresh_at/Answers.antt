use Rattle.std.proofs.Common.{take, ◌∙◌, arith}
use Rattle.smq_kit.specs.declared.place.Dir.TheVariants.{FromClient}
use Rattle.smq_kit.specs.declared.place.Place.{Place}
use Rattle.smq_book.specs.index.Held.{held_now}
use Rattle.smq_book.specs.index.Recomputed.{refreshed}
use Rattle.smq_book.proofs.lemmas.index.Recomputed.{refreshed-next}
use Rattle.smq_book.proofs.lemmas.index.Restated.{restates-all}
use Rattle.smq_book.proofs.lemmas.index.Rises.{both-rise}
use Rattle.smq_book.proofs.index.routes.refresh_at.Goals as goal

-- the place that is read past the end of a list
abbrev none : Place
none = record { session = record { 0 = 0 }; dir = FromClient; offset = 0 }

pub loop-place-preserved : goal.loop-place-preserved
loop-place-preserved c = record {
  held = λ z t facts traffic routes windows clock may held.
      let i = c.loop-place.place-index in
      let places = c.args.places.now in
      refreshed-next z t facts places i none (held_now c.restate_at.new.self) c.loop-place-test.true
      (c.in_ok-restate_at.ensures.held z t (refreshed z t facts (take i places)) traffic routes windows clock
      (restates-all z t facts may (take i places))
      (c.loop-place.invariant.held z t facts traffic routes windows clock may held));
  settled = c.restate_at.ensures.settled ∙ c.loop-place.invariant.settled;
  touches = omega (arith, c.in_ok-restate_at.ensures.touches, c.loop-place.invariant.touches);
  rises = both-rise c.args.index.now c.loop-place.index c.restate_at.new.self c.loop-place.invariant.rises
      c.in_ok-restate_at.ensures.rises;
}
