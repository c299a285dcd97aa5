use Rattle.std.proofs.Common.{◌≡◌, ◌∙◌, [], refl, sym, ap, subst}
use Rattle.std.proofs.lemmas.Option.{MatchOption-at_some}
use Rattle.smq_reassembly.specs.declared.packet.Packet.{Packet}
use Rattle.smq_streams.specs.Direction as stream
use Rattle.smq_streams.specs.Search.{octets_given}
use Rattle.smq_capture.specs.declared.direction.Direction.{Direction}
use Rattle.smq_streams.specs.Calls.{octets_in}
use Rattle.smq_capture.specs.Flow.{Tells, with_put}
use Rattle.smq_capture.specs.Rows.{Row}
use Rattle.smq_capture.proofs.Flows.{flows-next, tells-put}
use Rattle.smq_capture.proofs.flow.put_next.Goals as goal

pub returns-clause-flows : goal.returns-clause-flows
returns-clause-flows c s written f =
    let g = c.in-Some.given in
    let p : Packet = record { number = g.number; moment = g.moment } in
    let row : Row = record {
      sender = c.args.side;
      place = g.place;
      number = g.number;
      moment = c.raise_moment-moment.result;
      octets = g.octets.items;
      sessions = [];
    } in
    let h = MatchOption-at_some _ _ _ c.in-Some.is (c.in_ok-given.ensures.some s.pieces s.part.start (octets_in s.part) f.tells.gives) in
    let same = c.in_ok-given.ensures.same in
    let is = c.in-Some.is in
    let was = c.in_ok-given.was in
    let kept = c.raise_moment-moment.ensures.kept in (
      octets_given g,
      flows-next s written c.args.rows.now c.put.new.self c.args.side c.args.direction.now c.raise_moment-moment.new.self p g.begins row
          f.rows_are f.moment c.in_ok-put.ensures.ok refl c.raise_moment-moment.ensures.value
          (MatchOption-at_some _ _ _ c.in-Some.is c.in_ok-given.ensures.octets) (ap (λ (d : Direction). d.moment) kept)
          (subst (λ (d : Direction). Tells (with_put (octets_given g) s) d.stream) (sym kept)
          (tells-put s c.args.direction.now.stream c.next_part.new.self (octets_given g) f.tells h.1
          (ap (λ (d : stream.Direction). d.first) same)
          (λ e. let n = c.in_ok-given.ensures.searches (sym (ap (λ (d : stream.Direction). d.is_searching) same) ∙ e) in absurd (cc))
          (ap (λ (d : stream.Direction). d.is_stopped) same))),
    )
