use Rattle.std.proofs.Common.{◌≡◌, ◌∙◌, Bool, refl, sym, ap}
use Rattle.std.specs.Prelude.{true}
use Rattle.std.specs.Option.{is_some}
use Rattle.smq_streams.specs.Direction as stream
use Rattle.smq_capture.specs.declared.direction.Direction.{Direction}
use Rattle.smq_capture.specs.declared.side.Side.{Side}
use Rattle.smq_streams.specs.Calls.{octets_in}
use Rattle.smq_capture.specs.Flow.{direction_of, with_passed}
use Rattle.smq_capture.proofs.Flows.{flows-passed, in-centre, in-client, of-centre, of-client}
use Rattle.smq_capture.proofs.flow.Flow.search.Goals as goal

pub returns-in_ok-found-in-Client-clause-passes : goal.returns-in_ok-found-in-Client-clause-passes
returns-in_ok-found-in-Client-clause-passes c s written f =
    let g = in-client s written c.args.side c.args.self.now c.in-Client.is f in
    let of : c.of.result.now ≡ c.args.self.now.client =
    c.of.ensures ∙ ap (λ (x : Side). direction_of x c.args.self.now) c.in-Client.is in
    let is : c.args.self.now.client.stream.is_searching ≡ true =
    sym (ap (λ (d : Direction). d.stream.is_searching) of) ∙ sym c.is_searching.ensures ∙ c.if-not-is_searching.false in
    let same = c.search.ensures.same in
    let h = flows-passed s written c.args.self.now.rows c.args.side c.args.self.now.client (record c.args.self.now.client { stream = c.search.new.self })
    c.args.is_end (is_some c.in_ok-found-in-Client.found) g is
    (c.in_ok-found-in-Client.ensures.searches s.pieces s.part.start (octets_in s.part) g.tells.gives)
    (ap (λ (d : stream.Direction). d.first) same) (ap (λ (d : stream.Direction). d.is_stopped) same) refl in (
      h.0,
      of-client (with_passed h.0 s) written c.args.side (record c.args.self.now { client = record c.args.self.now.client { stream = c.search.new.self } }) c.in-Client.is h.1,
    )

pub returns-in_ok-found-in-Centre-clause-passes : goal.returns-in_ok-found-in-Centre-clause-passes
returns-in_ok-found-in-Centre-clause-passes c s written f =
    let g = in-centre s written c.args.side c.args.self.now c.in-Centre.is f in
    let of : c.of.result.now ≡ c.args.self.now.centre =
    c.of.ensures ∙ ap (λ (x : Side). direction_of x c.args.self.now) c.in-Centre.is in
    let is : c.args.self.now.centre.stream.is_searching ≡ true =
    sym (ap (λ (d : Direction). d.stream.is_searching) of) ∙ sym c.is_searching.ensures ∙ c.if-not-is_searching.false in
    let same = c.search-in-Centre.ensures.same in
    let h = flows-passed s written c.args.self.now.rows c.args.side c.args.self.now.centre (record c.args.self.now.centre { stream = c.search-in-Centre.new.self })
    c.args.is_end (is_some c.in_ok-found-in-Centre.found) g is
    (c.in_ok-found-in-Centre.ensures.searches s.pieces s.part.start (octets_in s.part) g.tells.gives)
    (ap (λ (d : stream.Direction). d.first) same) (ap (λ (d : stream.Direction). d.is_stopped) same) refl in (
      h.0,
      of-centre (with_passed h.0 s) written c.args.side (record c.args.self.now { centre = record c.args.self.now.centre { stream = c.search-in-Centre.new.self } }) c.in-Centre.is h.1,
    )
