use Rattle.std.proofs.Common.{refl, ap}
use Rattle.smq_streams.specs.Direction as stream
use Rattle.smq_streams.specs.Calls.{octets_in}
use Rattle.smq_capture.specs.Flow.{with_gap}
use Rattle.smq_capture.proofs.Flows.{flows-gap, in-centre, in-client, of-centre, of-client}
use Rattle.smq_capture.proofs.flow.Flow.skip_gap.Goals as goal

pub returns-in_ok-missing-in-Client-clause-ends : goal.returns-in_ok-missing-in-Client-clause-ends
returns-in_ok-missing-in-Client-clause-ends c s written f =
    let g = in-client s written c.args.side c.args.self.now c.in-Client.is f in
    let ok = c.in_ok-missing-in-Client in
    let same = ok.ensures.some.3 in
    let moment = c.args.self.now.client.stream.order.last.moment in (
      moment,
      of-client (with_gap ok.missing.until moment s) written c.args.side
          (record c.args.self.now { client = record c.args.self.now.client { stream = c.skip_gap.new.self } }) c.in-Client.is
          (flows-gap s written c.args.self.now.rows c.args.side c.args.self.now.client (record c.args.self.now.client { stream = c.skip_gap.new.self })
          ok.missing g ok.ensures.through (ok.ensures.skips s.pieces s.part.start (octets_in s.part) g.tells.gives)
          (ap (λ (d : stream.Direction). d.first) same) (ap (λ (d : stream.Direction). d.is_stopped) same) refl),
    )

pub returns-in_ok-missing-in-Centre-clause-ends : goal.returns-in_ok-missing-in-Centre-clause-ends
returns-in_ok-missing-in-Centre-clause-ends c s written f =
    let g = in-centre s written c.args.side c.args.self.now c.in-Centre.is f in
    let ok = c.in_ok-missing-in-Centre in
    let same = ok.ensures.some.3 in
    let moment = c.args.self.now.centre.stream.order.last.moment in (
      moment,
      of-centre (with_gap ok.missing.until moment s) written c.args.side
          (record c.args.self.now { centre = record c.args.self.now.centre { stream = c.skip_gap-in-Centre.new.self } }) c.in-Centre.is
          (flows-gap s written c.args.self.now.rows c.args.side c.args.self.now.centre (record c.args.self.now.centre { stream = c.skip_gap-in-Centre.new.self })
          ok.missing g ok.ensures.through (ok.ensures.skips s.pieces s.part.start (octets_in s.part) g.tells.gives)
          (ap (λ (d : stream.Direction). d.first) same) (ap (λ (d : stream.Direction). d.is_stopped) same) refl),
    )
