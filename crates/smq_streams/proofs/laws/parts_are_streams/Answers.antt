use Rattle.smq_streams.proofs.CallsOfStreams.{fit, last, streams}
use Rattle.smq_streams.proofs.laws.parts_are_streams.Goals as goal

pub returns-clause-streams : goal.returns-clause-streams
returns-clause-streams c = streams

pub returns-clause-last : goal.returns-clause-last
returns-clause-last c = last

pub returns-clause-fit : goal.returns-clause-fit
returns-clause-fit c = fit
