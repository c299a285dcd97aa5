use Rattle.std.proofs.Common.{refl}
use Rattle.smq_capture.proofs.Flows.{stays-centre, stays-client, tells-like}
use Rattle.smq_capture.proofs.flow.Flow.watch_anew.Goals as goal

pub returns-in-Client-clause-stays : goal.returns-in-Client-clause-stays
returns-in-Client-clause-stays c =
    stays-client c.args.self.now (record c.args.self.now.client { stream = c.watch_anew.new.self })
    (tells-like c.args.self.now.client.stream c.watch_anew.new.self _ c.watch_anew.ensures.same refl refl refl refl refl refl) refl

pub returns-in-Centre-clause-stays : goal.returns-in-Centre-clause-stays
returns-in-Centre-clause-stays c =
    stays-centre c.args.self.now (record c.args.self.now.centre { stream = c.watch_anew-in-Centre.new.self })
    (tells-like c.args.self.now.centre.stream c.watch_anew-in-Centre.new.self _ c.watch_anew-in-Centre.ensures.same refl refl refl refl refl refl) refl
