use Rattle.std.proofs.Common.{◌∙◌, ap, sym, filter, rules}
use Rattle.std.specs.declared.ops.Bound.TheVariants.{Included, Excluded}
use Rattle.std.specs.BTreeMap.Range.{range_contains}
use Rattle.smq_shelf.specs.Places.{content_of}
use Rattle.smq_shelf.proofs.Finds.{filter_places}
use Rattle.smq_shelf.proofs.kept_map.KeptMap.range.Goals as goal

pub returns-clause-between : goal.returns-clause-between
returns-clause-between g c =
    rw (← c.self.view_is)
    (ap content_of (c.range.ensures.between (search rules))
    ∙ filter_places (range_contains g.K.Ord.cmp (Included c.args.first) (Excluded c.args.end)) _
    ∙ ap (filter (λ e. range_contains g.K.Ord.cmp (Included c.args.first) (Excluded c.args.end) e.0)) (ap content_of c.places.ensures.places ∙ sym c.places.ensures.content))
