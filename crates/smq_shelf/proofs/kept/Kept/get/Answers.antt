use Rattle.std.proofs.Common.{◌≡◌, ap, sym, ◌∙◌, rules}
use Rattle.std.specs.Option.{option_copied}
use Rattle.std.specs.Map.{lookup}
use Rattle.std.specs.BTreeMap.{is_at}
use Rattle.smq_shelf.specs.Places.{content_of}
use Rattle.smq_shelf.specs.within.Undoing.{flatten}
use Rattle.smq_shelf.proofs.Changes.{lookup-content_of}
use Rattle.smq_shelf.proofs.kept.Kept.get.Goals as goal

pub returns : goal.returns
returns g c =
    let value : option_copied c.value_of.result ≡ lookup (is_at (g.K.Ord.cmp c.args.key.now)) (content_of c.self.inside.shelf.entries) =
    c.value_of.ensures ∙ ap flatten c.get.ensures.value ∙ sym (lookup-content_of g.met.K.Ord.total c.args.key.now _ c.self.invariant.kept.ordered) in
    search rules
