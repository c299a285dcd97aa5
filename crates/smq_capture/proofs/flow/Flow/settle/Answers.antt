use Rattle.smq_capture.proofs.Flows.{settled-centre, settled-client}
use Rattle.smq_capture.proofs.flow.Flow.settle.Goals as goal

pub returns-in-Client-clause-flows : goal.returns-in-Client-clause-flows
returns-in-Client-clause-flows c =
    settled-client c.args.self.now c.settle.new.direction c.settle.new.self c.args.side c.settle.ensures.settles c.settle.ensures.goes

pub returns-in-Centre-clause-flows : goal.returns-in-Centre-clause-flows
returns-in-Centre-clause-flows c =
    settled-centre c.args.self.now c.settle-in-Centre.new.direction c.settle-in-Centre.new.self c.args.side c.settle-in-Centre.ensures.settles c.settle-in-Centre.ensures.goes
