use Rattle.std.proofs.Common.{◌≡◌, ◌≤◌, ℕ, List, Some, None, IsSome, subst, sym, ◌∙◌}
use Rattle.smq_route.specs.Versions.{version_of}
use Rattle.smq_route.specs.within.Kept.{versions_in}
use Rattle.smq_route.proofs.Lookups.{last-same, last-other, last-none, same-digits, other-digits}
use Rattle.smq_route.proofs.routes.last_up_to.Goals as goal

pub returns-then-eq : goal.returns-then-eq
returns-then-eq c =
    let found = c.in-Some.ensures in
    subst (λ (p : List ℕ). (c.in-Some.found.now.from ≤ c.args.at)
    × (version_of (versions_in c.args.versions.now) p c.in-Some.found.now.from ≡ Some c.in-Some.version.now)
    × ((g : ℕ) → g ≤ c.args.at → IsSome (version_of (versions_in c.args.versions.now) p g) → g ≤ c.in-Some.found.now.from))
    c.copy.ensures.value
    (last-same c.args.versions.now.content c.copy.result c.args.at c.in-Some.found.now c.in-Some.version.now found.below found.there found.greatest
    (same-digits c.in-Some.found.now.prefix c.args.prefix.now c.eq.result c.eq.ensures c.if-eq.true ∙ sym c.copy.ensures.value))

pub returns-else-eq : goal.returns-else-eq
returns-else-eq c =
    let found = c.in-Some.ensures in
    subst (λ (p : List ℕ). (g : ℕ) → g ≤ c.args.at → version_of (versions_in c.args.versions.now) p g ≡ None) c.copy.ensures.value
    (last-other c.args.versions.now.content c.copy.result c.args.at c.in-Some.found.now found.below found.greatest
    (λ same. other-digits c.in-Some.found.now.prefix c.args.prefix.now c.eq.result c.eq.ensures c.if-eq.false (same ∙ c.copy.ensures.value)))

pub returns-in-None : goal.returns-in-None
returns-in-None c =
    subst (λ (p : List ℕ). (g : ℕ) → g ≤ c.args.at → version_of (versions_in c.args.versions.now) p g ≡ None) c.copy.ensures.value
    (last-none c.args.versions.now.content c.copy.result c.args.at c.in-None.ensures)
