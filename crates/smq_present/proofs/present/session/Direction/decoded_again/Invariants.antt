-- What is decoded so far, and the pieces that are left, are the whole.
use Rattle.std.proofs.Common.{◌≡◌, ◌++◌, drop}
use Rattle.smq_present.specs.present.Stream.{stream_of}
use Rattle.smq_present.proofs.present.session.Direction.decoded_again.Given as goal

abbrev pub invariant-loop-piece : goal.invariant-loop-piece
invariant-loop-piece l = l.again ++ stream_of (drop l.piece-index l.piece-items) ≡ l.self
