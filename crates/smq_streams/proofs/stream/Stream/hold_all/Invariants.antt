use Rattle.std.proofs.Common.{◌≡◌, List}
use Rattle.smq_reassembly.specs.Moment.{Start}
use Rattle.smq_reassembly.specs.Octet.{Octet}
use Rattle.smq_reassembly.specs.Piece.{Piece, octets_in}
use Rattle.smq_streams.specs.Direction.{Gives}
use Rattle.smq_streams.proofs.stream.Stream.hold_all.Given as goal

abbrev pub invariant-parts : goal.invariant-parts
invariant-parts l = record {
  gives : (pieces : List Piece) (start : Start) (given : List Octet) → Gives pieces start given l.initial.self → Gives pieces start given l.self;
  passed : l.self.held.passed ≡ l.initial.self.held.passed;
  same : l.self ≡ record l.initial.self { order = l.self.order; held = l.self.held };
}

abbrev pub decreases-parts : goal.decreases-parts
decreases-parts l = octets_in l.self.order.waiting
