use Rattle.std.proofs.Common.{ap, sym, ◌∙◌, rules, filter}
use Rattle.std.specs.Ordering.{is_le}
use Rattle.smq_shelf.specs.Places.{content_of}
use Rattle.smq_shelf.proofs.Finds.{filter_same, filter_places, and_true}
use Rattle.smq_shelf.proofs.kept_map.KeptMap.iter_from.Goals as goal

pub returns-clause-entries : goal.returns-clause-entries
returns-clause-entries g c =
    rw (← c.self.view_is)
    (ap content_of (c.range.ensures.between (search rules) ∙ filter_same _ (λ e. is_le (g.K.Ord.cmp c.args.key.now e.0)) (λ e. and_true _) _)
    ∙ filter_places (λ k. is_le (g.K.Ord.cmp c.args.key.now k)) _
    ∙ ap (filter (λ e. is_le (g.K.Ord.cmp c.args.key.now e.0))) (ap content_of c.places.ensures.places ∙ sym c.places.ensures.content))
