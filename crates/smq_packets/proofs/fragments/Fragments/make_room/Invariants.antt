use Rattle.std.proofs.Common.{◌≡◌, ℕ, ◌+◌, ◌-◌, ◌^◌, ◌<◌, min, drop, true}
use Rattle.smq_packets.specs.Fragments.{is_full_at}
use Rattle.smq_packets.proofs.fragments.Fragments.make_room.Given as goal

abbrev pub invariant-loop-gone : goal.invariant-loop-gone
invariant-loop-gone l = record {
  left : l.self.parts ≡ drop l.gone l.initial.self.parts;
  needed : (k : ℕ) → k < l.gone → is_full_at l.moment (drop k l.initial.self.parts) ≡ true;
  counted : l.self.dropped ≡ min (l.initial.self.dropped + l.gone) (2 ^ 64 - 1);
}
