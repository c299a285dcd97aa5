use Rattle.std.proofs.Common.{ap, sym, ◌∙◌}
use Rattle.std.specs.Map.{lookup}
use Rattle.std.specs.BTreeMap.{is_at}
use Rattle.smq_shelf.specs.within.Undoing.{flatten}
use Rattle.smq_shelf.proofs.Changes.{lookup-content_of}
use Rattle.smq_shelf.proofs.kept.Kept.peek.Goals as goal

pub returns : goal.returns
returns g c =
    rw (← c.self.view_is)
    (c.value_of.ensures ∙ ap flatten (c.get.ensures.value ∙ ap (lookup (is_at (g.K.Ord.cmp c.args.key.now))) c.map.ensures) ∙ sym (lookup-content_of g.met.K.Ord.total c.args.key.now _ c.self.invariant.kept.ordered))
