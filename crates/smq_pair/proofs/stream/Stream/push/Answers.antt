use Rattle.std.proofs.Common.{◌<◌, subst, sym}
use Rattle.std.specs.List.{All}
use Rattle.smq_pair.specs.within.Stream.{Held, StreamValue}
use Rattle.smq_pair.proofs.Held.{pushed-keeps}
use Rattle.smq_pair.proofs.stream.Stream.push.Goals as goal

pub invariant_of-self : goal.invariant_of-self
invariant_of-self c = rw c.push_reserved.ensures.items
    (pushed-keeps _ _ _ _ _ (subst (λ (v : StreamValue). All (λ (e : Held). e.0 < c.args.offset) v.content) (sym c.self.view_is) c.requires.above)
    c.self.invariant)
