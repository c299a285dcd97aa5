use Rattle.std.proofs.Common.{◌≡◌, ◌++◌, ◌∙◌, sym, subst, ap}
use Rattle.smq_reassembly.specs.Moment.{IsGiven}
use Rattle.smq_streams.specs.Direction.{Direction, Gives}
use Rattle.smq_streams.specs.Search.{Search, with_given}
use Rattle.smq_streams.proofs.Directions.{grows}
use Rattle.smq_streams.proofs.stream.Stream.hold_all.Goals as goal

pub parts-preserved : goal.parts-preserved
parts-preserved c =
    let ok = c.in_ok-hold_given.ensures.ok in
    let same = c.in-Some.ensures.same.0 in
    record {
      gives = λ pieces start given g.
          let h = c.in-Some.ensures.some pieces start given (c.parts.invariant.gives pieces start given g) in
          subst (λ (x : Direction). Gives pieces start given x) (sym ok)
          (subst (λ (s : Search). Gives pieces start given (record c.next_in_order.new.self { held = with_given c.in-Some.given s })) (sym same) h);
      passed = ap (λ (x : Direction). x.held.passed) ok ∙ ap (λ (s : Search). s.passed) same ∙ c.parts.invariant.passed;
      same = grows c.args.self.now c.parts.self c.next_in_order.new.self c.hold_given.new.self c.parts.invariant.same c.in-Some.ensures.frame c.in_ok-hold_given.ensures.same;
    }

pub returns-clause-holds : goal.returns-clause-holds
returns-clause-holds c pieces start given g =
    let h = c.next_in_order.ensures.none pieces start given (c.parts.invariant.gives pieces start given g) c.in_default.is in
    (h.1, subst (λ (s : Search). IsGiven pieces start (given ++ s.octets)) (sym c.next_in_order.ensures.same.0) h.0)
