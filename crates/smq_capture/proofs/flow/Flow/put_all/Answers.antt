use Rattle.smq_capture.specs.Flow.{with_put}
use Rattle.smq_capture.proofs.Flows.{in-centre, in-client, of-centre, of-client, other-centre, other-client}
use Rattle.smq_capture.proofs.flow.Flow.put_all.Goals as goal

pub returns-in_err-put_all-in-Client-clause-other : goal.returns-in_err-put_all-in-Client-clause-other
returns-in_err-put_all-in-Client-clause-other c =
    other-client c.args.self.now c.put_all.new.direction c.put_all.new.rows c.args.side c.in-Client.is c.put_all.ensures.puts

pub returns-in_ok-put_all-in-Client-clause-other : goal.returns-in_ok-put_all-in-Client-clause-other
returns-in_ok-put_all-in-Client-clause-other c =
    other-client c.args.self.now c.put_all.new.direction c.put_all.new.rows c.args.side c.in-Client.is c.put_all.ensures.puts

pub returns-in_ok-put_all-in-Client-clause-puts : goal.returns-in_ok-put_all-in-Client-clause-puts
returns-in_ok-put_all-in-Client-clause-puts c s written f =
    let g = c.in_ok-put_all-in-Client.ensures.flows s written (in-client s written c.args.side c.args.self.now c.in-Client.is f) in (
      g.0,
      of-client (with_put g.0 s) written c.args.side
          (record c.args.self.now { client = c.put_all.new.direction; rows = c.put_all.new.rows }) c.in-Client.is g.1,
    )

pub returns-in_err-put_all-in-Centre-clause-other : goal.returns-in_err-put_all-in-Centre-clause-other
returns-in_err-put_all-in-Centre-clause-other c =
    other-centre c.args.self.now c.put_all-in-Centre.new.direction c.put_all-in-Centre.new.rows c.args.side c.in-Centre.is c.put_all-in-Centre.ensures.puts

pub returns-in_ok-put_all-in-Centre-clause-other : goal.returns-in_ok-put_all-in-Centre-clause-other
returns-in_ok-put_all-in-Centre-clause-other c =
    other-centre c.args.self.now c.put_all-in-Centre.new.direction c.put_all-in-Centre.new.rows c.args.side c.in-Centre.is c.put_all-in-Centre.ensures.puts

pub returns-in_ok-put_all-in-Centre-clause-puts : goal.returns-in_ok-put_all-in-Centre-clause-puts
returns-in_ok-put_all-in-Centre-clause-puts c s written f =
    let g = c.in_ok-put_all-in-Centre.ensures.flows s written (in-centre s written c.args.side c.args.self.now c.in-Centre.is f) in (
      g.0,
      of-centre (with_put g.0 s) written c.args.side
          (record c.args.self.now { centre = c.put_all-in-Centre.new.direction; rows = c.put_all-in-Centre.new.rows }) c.in-Centre.is g.1,
    )
