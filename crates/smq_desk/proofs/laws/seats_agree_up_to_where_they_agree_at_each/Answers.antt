use Rattle.smq_desk.proofs.AgreeAtEach.{agree_each, torn_least}
use Rattle.smq_desk.proofs.laws.seats_agree_up_to_where_they_agree_at_each.Goals as goal

pub returns-clause-each : goal.returns-clause-each
returns-clause-each c = agree_each

pub returns-clause-least : goal.returns-clause-least
returns-clause-least c = torn_least
