use Rattle.std.proofs.Common.{refl}
use Rattle.smq_capture.proofs.Flows.{stays-centre, stays-client, tells-begin}
use Rattle.smq_capture.proofs.flow.Flow.begin.Goals as goal

pub returns-in-Client-clause-stays : goal.returns-in-Client-clause-stays
returns-in-Client-clause-stays c =
    stays-client c.args.self.now (record c.args.self.now.client { stream = c.begin.new.self })
    (λ s t. tells-begin s c.args.self.now.client.stream c.begin.new.self c.args.first c.args.is_searching c.begin.ensures.begins c.begin.ensures.same t) refl

pub returns-in-Centre-clause-stays : goal.returns-in-Centre-clause-stays
returns-in-Centre-clause-stays c =
    stays-centre c.args.self.now (record c.args.self.now.centre { stream = c.begin-in-Centre.new.self })
    (λ s t. tells-begin s c.args.self.now.centre.stream c.begin-in-Centre.new.self c.args.first c.args.is_searching c.begin-in-Centre.ensures.begins c.begin-in-Centre.ensures.same t) refl
