use Rattle.std.proofs.Common.{◌≡◌, ap, sym, ◌∙◌, rules, subst}
use Rattle.std.specs.List.Sorted.{IsStrictlySortedBy}
use Rattle.std.specs.Map.{keys_of}
use Rattle.smq_shelf.specs.Places.{content_of}
use Rattle.smq_shelf.proofs.Finds.{filter_all}
use Rattle.smq_shelf.proofs.kept_map.KeptMap.iter.Goals as goal

pub returns-clause-entries : goal.returns-clause-entries
returns-clause-entries g c =
    rw (← c.self.view_is) (ap content_of (c.range.ensures.between (search rules) ∙ filter_all _) ∙ ap content_of c.places.ensures.places ∙ sym c.places.ensures.content)

pub returns-clause-ordered : goal.returns-clause-ordered
returns-clause-ordered g c =
    let same : content_of c.range.result ≡ c.self.inside.kept.content = ap content_of (c.range.ensures.between (search rules) ∙ filter_all _) ∙ ap content_of c.places.ensures.places ∙ sym c.places.ensures.content in
    subst (λ es. IsStrictlySortedBy g.K.Ord.cmp (keys_of es)) (sym same) c.places.ensures.ordered
