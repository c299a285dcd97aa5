-- The octets so far are those of the pieces before.
use Rattle.std.proofs.Common.{◌≡◌, ◌-◌, drop, length, take}
use Rattle.smq_frame.specs.Stream.{values}
use Rattle.smq_present.specs.present.Stream.{stream_of}
use Rattle.smq_deal.proofs.direction_rows.bad_length.Given as goal

abbrev pub invariant-loop-piece : goal.invariant-loop-piece
invariant-loop-piece l = record {
  octets : l.octets.items ≡ take 4 (drop l.at (values (stream_of (take l.piece-index l.piece-items))));
  before : l.before ≡ l.at - length (values (stream_of (take l.piece-index l.piece-items)));
}
