use Rattle.smq_capture.proofs.Flows.{other-centre, other-client}
use Rattle.smq_capture.proofs.flow.Flow.take.Goals as goal
use Rattle.smq_capture.proofs.flow.Flow.take.Goals.{in-Centre+in_ok-came-in-Centre, in-Client+in_ok-came-in-Client}

pub returns-clause-other : goal.returns-clause-other
returns-clause-other c =
    elim c.match-side.branch [
      | in-Client+in_ok-came-in-Client w ↦
          rw (w.self-is)
          (other-client c.args.self.now w.take_in.new.direction w.take_in.new.rows c.args.side w.in-Client.is
          w.in_ok-came-in-Client.ensures.puts)
      | in-Centre+in_ok-came-in-Centre w ↦
          rw (w.self-is)
          (other-centre c.args.self.now w.take_in-in-Centre.new.direction w.take_in-in-Centre.new.rows c.args.side w.in-Centre.is
          w.in_ok-came-in-Centre.ensures.puts)
    ]
