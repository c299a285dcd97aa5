use Rattle.smq_scratch.proofs.BlankedStreams.{keeps-stay, last-stays, length-stays, pdus-stay, tail-stays}
use Rattle.smq_scratch.proofs.blanked.streams_read_alike_keep_the_same.Goals as goal

pub returns-clause-pdus : goal.returns-clause-pdus
returns-clause-pdus c = pdus-stay

pub returns-clause-tail : goal.returns-clause-tail
returns-clause-tail c = tail-stays

pub returns-clause-last : goal.returns-clause-last
returns-clause-last c = last-stays

pub returns-clause-octets : goal.returns-clause-octets
returns-clause-octets c = length-stays

pub returns-clause-keeps : goal.returns-clause-keeps
returns-clause-keeps c = keeps-stay
