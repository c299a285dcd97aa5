use Rattle.std.proofs.Common.{◌≡◌, ◌∙◌, Bool, refl, sym, ap, subst}
use Rattle.std.proofs.lemmas.Option.{MatchOption-at_some}
use Rattle.smq_reassembly.specs.Octet.{octets_of}
use Rattle.smq_reassembly.specs.Segment.{IsTooFarAhead, piece_of}
use Rattle.smq_streams.specs.Direction as stream
use Rattle.smq_capture.specs.declared.direction.Direction.{Direction}
use Rattle.smq_streams.specs.Calls.{octets_in}
use Rattle.smq_capture.specs.Flow.{IsThrough, Tells, with_piece, with_put}
use Rattle.smq_capture.proofs.Flows.{adds-at, comes-within, flows-added, flows-noted, tells-lent}
use Rattle.smq_capture.proofs.flow.take_in.Goals as goal

pub returns-in-Some-clause-comes : goal.returns-in-Some-clause-comes
returns-in-Some-clause-comes c s written f place flow first stands some =
    let n = c.in-Some.next in
    let d = c.args.direction.now in
    let os = octets_of n.packet n.begins n.octets.now in
    let piece = piece_of place d.stream.order.next c.args.packet c.args.octets.now in
    let ok = c.in_ok-next.ensures in
    let same = ok.same in
    let gives = MatchOption-at_some _ _ _ c.in-Some.is
    (ok.takes s.pieces s.part.start (octets_in s.part) f place flow.tells.gives first stands) in
    let lends = ok.lends s.pieces s.part.start (octets_in s.part) f place flow.tells.gives first stands in
    let lent : stream.IsLent d.stream place c.args.packet c.args.octets.now = lends.0 (let is = c.in-Some.is in search (is)) in
    let tells : Tells (with_put os (with_piece piece s)) c.takes_next.new.self =
    tells-lent s d.stream c.takes_next.new.self piece os flow.tells gives
    (λ none. let e = ap (λ (x : stream.Direction). x.first) same in absurd (cc))
    (λ is. let e = ap (λ (x : stream.Direction). x.is_searching) same in let no = lent.searches in absurd (cc))
    (ap (λ (x : stream.Direction). x.is_stopped) same) in
    comes-within (IsTooFarAhead d.stream.order.next piece) s (with_piece piece s) written c.args.side c.in_ok-came.came
    c.put_lent.new.direction c.put_lent.new.rows lent.near
    (c.in_ok-came.ensures.comes (with_piece piece s) written flow.rows_are
    (ap (λ (x : Direction). x.moment) c.note_early.ensures.same ∙ flow.moment)
    (subst (λ (x : Direction). Tells (with_put os (with_piece piece s)) x.stream) (sym c.note_early.ensures.same) tells)
    (MatchOption-at_some _ _ _ c.in-Some.is ok.octets))

pub returns-clause-comes : goal.returns-clause-comes
returns-clause-comes c s written f place flow first stands some =
    let d = c.args.direction.now in
    let piece = piece_of place d.stream.order.next c.args.packet c.args.octets.now in
    let between : c.takes_next.new.self ≡ d.stream =
    c.in_ok-next.ensures.none s.pieces s.part.start (octets_in s.part) f place flow.tells.gives first stands c.in_default.is in
    let adds = subst (λ (b : Bool). stream.Adds s.pieces s.part.start (octets_in s.part) piece d.stream c.add.new.self b) c.if-not-branch.false
    (adds-at s c.args.sequence c.args.packet c.args.octets.now c.in_ok-add.field-0 f place d.stream c.takes_next.new.self c.add.new.self
    flow.tells first stands some between c.in_ok-add.ensures.adds) in
    let added = flows-added s written c.args.rows.now c.args.side piece f d c.takes_next.new.self c.add.new.self flow first between adds
    c.add.ensures.same in
    let put = c.in_ok-has_put.ensures.flows (with_piece piece s) written added in
    let noted = c.note_early-2.ensures.same in (
      adds.0,
      put.0,
      flows-noted (with_put put.0 (with_piece piece s)) written c.put_all.new.rows c.args.side c.put_all.new.direction
          c.note_early-2.new.self noted put.1,
      subst (λ (x : Direction). IsThrough x.stream) (sym noted) c.in_ok-has_put.ensures.all,
    )

pub returns-then-not-branch-clause-comes : goal.returns-then-not-branch-clause-comes
returns-then-not-branch-clause-comes c s written f place flow first stands some =
    let d = c.args.direction.now in
    let piece = piece_of place d.stream.order.next c.args.packet c.args.octets.now in
    let between : c.takes_next.new.self ≡ d.stream =
    c.in_ok-next.ensures.none s.pieces s.part.start (octets_in s.part) f place flow.tells.gives first stands c.in_default.is in
    let adds = subst (λ (b : Bool). stream.Adds s.pieces s.part.start (octets_in s.part) piece d.stream c.add.new.self b) c.if-not-branch.true
    (adds-at s c.args.sequence c.args.packet c.args.octets.now c.in_ok-add.field-0 f place d.stream c.takes_next.new.self c.add.new.self
    flow.tells first stands some between c.in_ok-add.ensures.adds) in
    let still : c.add.new.self ≡ d.stream = c.in_ok-add.ensures.far c.if-not-branch.true ∙ between in (
      adds.0,
      record {
        tells = subst (λ (x : stream.Direction). Tells s x) (sym still) flow.tells;
        rows_are = flow.rows_are;
        moment = flow.moment;
      },
    )
