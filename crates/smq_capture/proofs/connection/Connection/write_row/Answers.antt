use Rattle.std.proofs.Common.{◌≡◌, ◌∙◌, ◌++◌, ◌∷◌, ℕ, List, [], length, refl, sym, ap, subst, append_assoc, append-nil, arith}
use Rattle.std.specs.Io.KnownBytes.{Appends}
use Rattle.smq_capture.specs.Row.{row_text}
use Rattle.smq_capture.specs.Rows as rows
use Rattle.smq_capture.proofs.Writing.{appends-none, appends-then, parts-more}
use Rattle.smq_capture.proofs.connection.Connection.write_row.Goals as goal

pub parts-init : goal.parts-init
parts-init g c = record { parts = ([], refl, appends-none _); same = (refl, refl) }

pub parts-smaller : goal.parts-smaller
parts-smaller g c = let e = ap (λ (ps : List rows.Part). length ps) c.in-Some.ensures in omega (arith, e)

pub parts-preserved : goal.parts-preserved
parts-preserved g c =
    let done = c.parts.invariant.parts.0 in
    let row = c.args.row.now in
    let p : rows.Part = record { session = c.in-Some.part.session; octets = c.in-Some.part.octets.now } in
    let link : c.note_packet.new.self.link ≡ c.args.self.now.link = c.note_packet.ensures.0 ∙ c.parts.invariant.same.0 in
    let one : row_text c.note_packet.new.self.link p.session c.sender.result c.moment.result p.octets
    ≡ row_text c.args.self.now.link p.session row.sender row.moment p.octets =
    λ i. row_text (link i) p.session (c.sender.ensures i) (c.moment.ensures i) p.octets in
    record {
      parts = (
        done ++ p ∷ [],
        c.parts.invariant.parts.1 ∙ ap (λ (ps : List rows.Part). done ++ ps) c.in-Some.ensures
            ∙ sym (append_assoc done (p ∷ []) c.next.new.self),
        subst (λ (t : List ℕ). Appends (g.S.Sink.contents c.args.output.now.sink) (g.S.Sink.contents c.put.new.self.sink) t)
            (sym (parts-more c.args.self.now.link row done p))
            (appends-then (g.S.Sink.contents c.args.output.now.sink) (g.S.Sink.contents c.parts.output.sink)
            (g.S.Sink.contents c.put.new.self.sink) _ _ c.parts.invariant.parts.2
            (subst (λ (t : List ℕ). Appends (g.S.Sink.contents c.parts.output.sink) (g.S.Sink.contents c.put.new.self.sink) t) one
            c.in_ok-put.ensures)),
      );
      same = (link, c.note_packet.ensures.1 ∙ c.parts.invariant.same.1);
    }

pub returns-in_err-put-clause-same : goal.returns-in_err-put-clause-same
returns-in_err-put-clause-same g c =
    (c.note_packet.ensures.0 ∙ c.parts.invariant.same.0, c.note_packet.ensures.1 ∙ c.parts.invariant.same.1)

pub returns-clause-text : goal.returns-clause-text
returns-clause-text g c =
    let done = c.parts.invariant.parts.0 in (
      done,
      subst (λ (ps : List rows.Part). rows.AreParts c.args.row.now ps)
          (c.parts.invariant.parts.1 ∙ ap (λ (ps : List rows.Part). done ++ ps) c.in_default.ensures ∙ append-nil done) c.parts-parts.ensures,
      c.parts.invariant.parts.2,
    )

pub returns-clause-same : goal.returns-clause-same
returns-clause-same g c = c.parts.invariant.same
