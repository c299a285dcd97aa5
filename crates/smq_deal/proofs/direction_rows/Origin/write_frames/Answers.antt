use Rattle.std.proofs.Common.{List, [], ◌∷◌, ℕ, take, sym, subst, ap, ◌∙◌, ◌++◌, append-nil}
use Rattle.std.proofs.KnownBytes.{Appends-trans}
use Rattle.std.specs.Io.KnownBytes.{Appends}
use Rattle.smq_frame.specs.Frame.{FrameValue}
use Rattle.smq_deal.specs.Texts.{pdu_rows, row_of}
use Rattle.smq_deal.proofs.Rows.{rows-more, row-here, no-row-here, drop-next, drop-none, empty-list}
use Rattle.smq_deal.proofs.direction_rows.Origin.write_frames.Goals.{in-Some+then-first-part+in_ok-write, in-Some+else-first-part, in_default}
use Rattle.smq_deal.proofs.direction_rows.Origin.write_frames.Goals as goal

pub loop-frame-preserved : goal.loop-frame-preserved
loop-frame-preserved g c =
    let frames = c.args.frames.now in
    let parts = c.args.parts.now in
    let i = c.loop-frame.frame-index in
    let f = c.frame-item.result in
    let left = c.loop-frame.left.now in
    let put : List FrameValue → List ℕ → List ℕ = λ fs ps. pdu_rows c.args.self c.args.part fs ps in
    let more = rows-more c.args.self c.args.part frames i f parts left c.loop-frame-test.true c.frame-item.is c.loop-frame.invariant.left in
    let rows : List ℕ → Type 0 = λ t. Appends (g.W.Write.contents c.args.writer.now) (g.W.Write.contents c.loop-frame.writer) t in
    elim c.match-split_first.branch [
      | in-Some+then-first-part+in_ok-write w ↦ rw (w.left-is, w.writer-is) (record {
        left = drop-next parts i w.in-Some.first.now w.in-Some.others.now left c.loop-frame.invariant.left w.in-Some.ensures.cases.0;
        text = subst (λ (t : List ℕ). Appends (g.W.Write.contents c.args.writer.now) (g.W.Write.contents w.write.new.writer) t)
            (sym (more ∙ ap (λ (ps : List ℕ). put (take i frames) parts ++ put (f ∷ []) ps)
            w.in-Some.ensures.cases.0
            ∙ ap (λ (t : List ℕ). put (take i frames) parts ++ t)
            (row-here c.args.self c.args.part f w.in-Some.first.now w.in-Some.others.now w.if-first-part.true)))
            (Appends-trans (g.W.Write.contents c.args.writer.now) (g.W.Write.contents c.loop-frame.writer)
            (g.W.Write.contents w.write.new.writer)
            (put (take i frames) parts) (row_of c.args.self f.moment f.octets)
            c.loop-frame.invariant.text (subst (λ (t : List ℕ). Appends (g.W.Write.contents c.loop-frame.writer)
            (g.W.Write.contents w.write.new.writer) t)
            (ap (λ (t : List ℕ). row_of c.args.self c.frame.inside.moment t) w.as_slice.ensures
            ∙ ap (λ (q : FrameValue). row_of c.args.self q.moment q.octets) c.frame.view_is) w.in_ok-write.ensures));
      })
      | in-Some+else-first-part w ↦ rw (w.left-is, w.writer-is) (record {
        left = drop-next parts i w.in-Some.first.now w.in-Some.others.now left c.loop-frame.invariant.left w.in-Some.ensures.cases.0;
        text = subst rows
            (sym (more ∙ ap (λ (ps : List ℕ). put (take i frames) parts ++ put (f ∷ []) ps)
            w.in-Some.ensures.cases.0
            ∙ ap (λ (t : List ℕ). put (take i frames) parts ++ t)
            (no-row-here c.args.self c.args.part f w.in-Some.first.now w.in-Some.others.now w.if-first-part.false)
            ∙ append-nil (put (take i frames) parts)))
            c.loop-frame.invariant.text;
      })
      | in_default w ↦ rw (w.left-is, w.writer-is) (
          let none = empty-list left w.in_default.ensures.cases in record {
            left = drop-none parts i left c.loop-frame.invariant.left none;
            text = subst rows
                (sym (more ∙ ap (λ (ps : List ℕ). put (take i frames) parts ++ put (f ∷ []) ps) none
                ∙ append-nil (put (take i frames) parts)))
                c.loop-frame.invariant.text;
          })
    ]
