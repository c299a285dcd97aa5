-- The places so far are those of the members so far.
use Rattle.std.proofs.Common.{◌≡◌, map, take}
use Rattle.smq_group.proofs.links.places_of.Given as goal

abbrev pub invariant-loop-place : goal.invariant-loop-place
invariant-loop-place g l = record {
  put : l.places.items ≡ map (λ m. m.0) (take l.place-index l.members);
}
