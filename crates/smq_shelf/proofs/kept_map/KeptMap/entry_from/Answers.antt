use Rattle.std.specs.Map.Iter.{deref_pair}
use Rattle.smq_shelf.proofs.Nearest.{finds-from}
use Rattle.smq_shelf.proofs.kept_map.KeptMap.entry_from.Goals as goal

pub returns : goal.returns
returns g c =
    finds-from g.met.K.Ord.total g.met.K.ShelfKey.exact deref_pair c.args.key _ _ _ _ c.range_from.ensures.ordered
    c.range_from.ensures.between c.next.ensures.steps
