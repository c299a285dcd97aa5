use Rattle.std.proofs.Common.{◌≡◌, [], length}
use Rattle.std.specs.Slice.Iter.{iter_rest}
use Rattle.smq_kit.specs.declared.place.Dir.TheVariants.{FromCentre}
use Rattle.smq_pair.specs.within.Kept.{alone_from, places_alone}
use Rattle.smq_pair.proofs.places.PlacesIterator.next.Given as goal

abbrev pub invariant-loop-held : goal.invariant-loop-held
invariant-loop-held l = record {
  side : l.self-inside.side ≡ l.side;
  session : l.self-inside.session ≡ l.session;
  left : places_alone l.side (record { session = l.session; client = iter_rest l.self-inside.client; centre = iter_rest l.self-inside.centre }) ≡ l.fn.self;
}

abbrev pub decreases-loop-held : goal.decreases-loop-held
decreases-loop-held l = length (iter_rest l.self-inside.client)

abbrev pub invariant-loop-held-2 : goal.invariant-loop-held-2
invariant-loop-held-2 l = record {
  side : l.self-inside.side ≡ l.side;
  session : l.self-inside.session ≡ l.session;
  client : iter_rest l.self-inside.client ≡ [];
  left : alone_from l.side l.session FromCentre (iter_rest l.self-inside.centre) ≡ l.fn.self;
}

abbrev pub decreases-loop-held-2 : goal.decreases-loop-held-2
decreases-loop-held-2 l = length (iter_rest l.self-inside.centre)
