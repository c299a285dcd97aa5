-- The rows so far are those of the frames before, and the parts that are left are those of the frames that are left.
use Rattle.std.proofs.Common.{◌≡◌, drop, take}
use Rattle.std.specs.Io.KnownBytes.{Appends}
use Rattle.smq_deal.specs.Texts.{pdu_rows}
use Rattle.smq_deal.proofs.direction_rows.Origin.write_frames.Given as goal

abbrev pub invariant-loop-frame : goal.invariant-loop-frame
invariant-loop-frame g l = record {
  left : l.left ≡ drop l.frame-index l.parts;
  text : Appends (g.W.Write.contents l.initial.writer) (g.W.Write.contents l.writer)
      (pdu_rows l.self l.part (take l.frame-index l.frames) l.parts);
}
