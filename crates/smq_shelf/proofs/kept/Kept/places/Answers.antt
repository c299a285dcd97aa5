use Rattle.smq_shelf.proofs.Changes.{content_ordered}
use Rattle.smq_shelf.proofs.kept.Kept.places.Goals as goal

pub returns-clause-ordered : goal.returns-clause-ordered
returns-clause-ordered g c = rw (← c.self.view_is) (content_ordered g.met.K.Ord.total _ c.self.invariant.kept.ordered)
