-- What is joined so far, and what is left, is what all say.
use Rattle.std.proofs.Common.{◌≡◌, ◌++◌}
use Rattle.std.specs.List.{flat_map}
use Rattle.smq_present.proofs.pairing.traffic.concatenated.Given as goal

abbrev pub invariant-loop-traffic : goal.invariant-loop-traffic
invariant-loop-traffic l = record {
  submits : l.submits.items ++ flat_map (λ t. t.submits.items) l.traffic-iterator.rest.items ≡ flat_map (λ t. t.submits.items) l.fn.read.items;
  notes : l.notes.items ++ flat_map (λ t. t.notes.items) l.traffic-iterator.rest.items ≡ flat_map (λ t. t.notes.items) l.fn.read.items;
}
