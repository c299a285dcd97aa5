use Rattle.smq_present.specs.within.InOrder.{sessions_in}
use Rattle.smq_present.proofs.lemmas.present.Appended.{present_becomes}
use Rattle.smq_present.proofs.present.present.Present.put_batch_in_step.Goals as goal

pub returns : goal.returns
returns c = present_becomes c.args.self.now (sessions_in c.self.inside.sessions) (sessions_in c.put_in_step.new.sessions)
    c.self.inside.settings c.args.batch c.put_in_step.result c.self.view_is c.put_in_step.ensures
