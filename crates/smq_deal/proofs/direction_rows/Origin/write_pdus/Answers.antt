use Rattle.std.proofs.Common.{◌≡◌, ◌++◌, List, ℕ, ap, sym, subst, ◌∙◌, take, ◌+◌, rules}
use Rattle.std.proofs.KnownBytes.{Appends-nil, Appends-trans}
use Rattle.std.specs.Io.KnownBytes.{Appends}
use Rattle.smq_frame.proofs.Streams.{stream_frames-nil, tail_of-nil}
use Rattle.smq_frame.specs.Frame.{FrameValue}
use Rattle.smq_frame.specs.Stream.{frames_after, stream_frames}
use Rattle.smq_present.specs.present.Stream.{stream_of}
use Rattle.smq_deal.specs.Texts.{pdu_rows}
use Rattle.smq_deal.proofs.Rows.{frames-more, tail-more, piece-rows, piece-left}
use Rattle.smq_deal.proofs.direction_rows.Origin.write_pdus.Goals as goal

pub loop-piece-init : goal.loop-piece-init
loop-piece-init g c = rw stream_frames-nil (record {
  tail = c.at-tail.ensures ∙ sym tail_of-nil;
  left = search rules;
  text = Appends-nil _;
})

pub loop-piece-preserved : goal.loop-piece-preserved
loop-piece-preserved g c =
    let pieces = c.pieces-piece-items.result.now in
    let i = c.loop-piece.piece-index in
    let p = c.piece-item.result in
    let tail = c.loop-piece.tail in
    let given = c.as_slice.result.now in
    let is : given ≡ frames_after tail p.moment p.octets = c.as_slice.ensures.value ∙ c.in_ok-found.ensures.frames in
    let before = stream_frames (stream_of (take i pieces)) in
    let after = stream_frames (stream_of (take (i + 1) pieces)) in
    let more : after ≡ before ++ given = frames-more pieces i p tail c.loop-piece-test.true c.piece-item.is c.loop-piece.invariant.tail
    ∙ ap (λ (fs : List FrameValue). before ++ fs) (sym is) in
    record {
      tail = c.in_ok-found.ensures.tail ∙ tail-more pieces i p tail c.loop-piece-test.true c.piece-item.is
          c.loop-piece.invariant.tail;
      left = c.in_ok-left.ensures.left ∙ piece-left before after given
          c.args.parts.now c.loop-piece.left.now more c.loop-piece.invariant.left;
      text = subst (λ (t : List ℕ). Appends (g.W.Write.contents c.args.writer.now)
          (g.W.Write.contents c.write_frames.new.writer) t)
          (sym (piece-rows c.args.self c.args.part before after given
          c.args.parts.now c.loop-piece.left.now more c.loop-piece.invariant.left))
          (Appends-trans (g.W.Write.contents c.args.writer.now) (g.W.Write.contents c.loop-piece.writer)
          (g.W.Write.contents c.write_frames.new.writer) (pdu_rows c.args.self c.args.part before c.args.parts.now)
          (pdu_rows c.args.self c.args.part given c.loop-piece.left.now) c.loop-piece.invariant.text c.in_ok-left.ensures.text);
    }
