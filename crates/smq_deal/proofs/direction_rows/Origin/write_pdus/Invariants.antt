-- The rows so far are those of the PDUs of the pieces before, and the parts that are left are those of the PDUs that are left.
use Rattle.std.proofs.Common.{◌≡◌, drop, length, take}
use Rattle.std.specs.Io.KnownBytes.{Appends}
use Rattle.smq_frame.specs.Stream.{stream_frames, values}
use Rattle.smq_frame.specs.Tail.{tail_of}
use Rattle.smq_present.specs.present.Stream.{stream_of}
use Rattle.smq_deal.specs.Texts.{pdu_rows}
use Rattle.smq_deal.proofs.direction_rows.Origin.write_pdus.Given as goal

abbrev pub invariant-loop-piece : goal.invariant-loop-piece
invariant-loop-piece g l =
    let before = stream_of (take l.piece-index l.piece-items) in
    record {
      tail : l.tail ≡ tail_of (values before);
      left : l.left ≡ drop (length (stream_frames before)) l.parts;
      text : Appends (g.W.Write.contents l.initial.writer) (g.W.Write.contents l.writer)
          (pdu_rows l.self l.part (stream_frames before) l.parts);
    }
