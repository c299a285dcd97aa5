-- The places of the keys so far.
use Rattle.std.proofs.Common.{◌≡◌, map, take}
use Rattle.smq_book.proofs.index.clock.places_of_ends.Given as goal

abbrev pub invariant-loop-key : goal.invariant-loop-key
invariant-loop-key l = record { pushed : l.places.items ≡ map (λ k. k.place) (take l.key-index l.keys) }
