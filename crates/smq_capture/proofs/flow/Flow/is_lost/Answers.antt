use Rattle.std.proofs.Common.{refl}
use Rattle.smq_capture.proofs.Flows.{stays-centre, stays-client, tells-like}
use Rattle.smq_capture.proofs.flow.Flow.is_lost.Goals as goal

pub returns-in-Client-clause-stays : goal.returns-in-Client-clause-stays
returns-in-Client-clause-stays c =
    stays-client c.args.self.now (record c.args.self.now.client { stream = c.is_lost.new.self })
    (tells-like c.args.self.now.client.stream c.is_lost.new.self _ c.is_lost.ensures.same refl refl refl refl refl refl) refl

pub returns-in-Centre-clause-stays : goal.returns-in-Centre-clause-stays
returns-in-Centre-clause-stays c =
    stays-centre c.args.self.now (record c.args.self.now.centre { stream = c.is_lost-in-Centre.new.self })
    (tells-like c.args.self.now.centre.stream c.is_lost-in-Centre.new.self _ c.is_lost-in-Centre.ensures.same refl refl refl refl refl refl) refl

pub returns-in-Client-clause-keeps : goal.returns-in-Client-clause-keeps
returns-in-Client-clause-keeps c = rw (c.in-Client.is) (c.is_lost.ensures.keeps)

pub returns-in-Centre-clause-keeps : goal.returns-in-Centre-clause-keeps
returns-in-Centre-clause-keeps c = rw (c.in-Centre.is) (c.is_lost-in-Centre.ensures.keeps)
