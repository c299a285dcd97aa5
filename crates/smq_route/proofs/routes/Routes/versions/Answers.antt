use Rattle.std.proofs.Common.{sym, ap, subst, ◌∙◌}
use Rattle.std.specs.FinMap.{entries}
use Rattle.std.specs.List.Sorted.{IsStrictlySortedBy}
use Rattle.std.specs.Map.{keys_of}
use Rattle.smq_route.specs.within.Kept.{kept_version_cmp}
use Rattle.smq_route.specs.Routes.{RoutesValue}
use Rattle.smq_route.proofs.Lookups.{entries-seen}
use Rattle.smq_route.proofs.routes.Routes.versions.Goals as goal

pub returns-clause-entries : goal.returns-clause-entries
returns-clause-entries c =
    c.iter.ensures.entries
    ∙ sym (entries-seen c.self.inside.versions.content (subst (λ es. IsStrictlySortedBy kept_version_cmp (keys_of es)) c.iter.ensures.entries c.iter.ensures.ordered))
    ∙ ap (λ (r : RoutesValue). entries r.versions) c.self.view_is
