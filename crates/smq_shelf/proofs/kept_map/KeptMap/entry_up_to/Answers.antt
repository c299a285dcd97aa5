use Rattle.std.specs.Map.Iter.{deref_pair}
use Rattle.smq_shelf.proofs.Nearest.{finds-up-to}
use Rattle.smq_shelf.proofs.kept_map.KeptMap.entry_up_to.Goals as goal

pub returns : goal.returns
returns g c =
    finds-up-to g.met.K.Ord.total g.met.K.ShelfKey.exact deref_pair c.args.key _ _ _ _ c.range_to.ensures.ordered
    c.range_to.ensures.between c.next_back.ensures.steps
