-- The keys so far, and those of the PDUs that are left, are what was there and those of all.
use Rattle.std.proofs.Common.{◌≡◌, drop, take}
use Rattle.std.specs.List.{flat_map}
use Rattle.smq_present.specs.pairing.Traffic.{with_earlier}
use Rattle.smq_deal.specs.Open.{Reaches, unanswered, unanswered_among}
use Rattle.smq_deal.proofs.open.Open.add_side.Given as goal

abbrev pub invariant-loop-index : goal.invariant-loop-index
invariant-loop-index l = record {
  moment : l.self.moment ≡ l.initial.self.moment;
  keys : Reaches l.initial.self.keys l.self.keys
      (flat_map (λ e. unanswered l.settings l.initial.self.moment l.source l.side.other.now e.0 e.1)
      (with_earlier (take l.index l.side.pdus.now) (drop l.index l.side.pdus.now)))
      (unanswered_among l.settings l.initial.self.moment l.source l.side.other.now l.side.pdus.now);
}
