use Rattle.std.proofs.Common.{◌≡◌, ◌≤◌, ℕ, List, None, IsSome, subst, sym, ◌∙◌}
use Rattle.smq_route.specs.Versions.{version_of}
use Rattle.smq_route.specs.within.Kept.{versions_in}
use Rattle.smq_route.proofs.Lookups.{first-same, first-other, first-none, same-digits, other-digits}
use Rattle.smq_route.proofs.routes.first_from.Goals as goal

pub returns-then-eq : goal.returns-then-eq
returns-then-eq c =
    let found = c.in-Some.ensures in
    subst (λ (p : List ℕ). (c.args.at ≤ c.in-Some.found.now.from)
    × IsSome (version_of (versions_in c.args.versions.now) p c.in-Some.found.now.from)
    × ((g : ℕ) → c.args.at ≤ g → IsSome (version_of (versions_in c.args.versions.now) p g) → c.in-Some.found.now.from ≤ g))
    c.copy.ensures.value
    (first-same c.args.versions.now.content c.copy.result c.args.at c.in-Some.found.now c.in-Some.field-0-1.now found.above found.there found.least
    (same-digits c.in-Some.found.now.prefix c.args.prefix.now c.eq.result c.eq.ensures c.if-eq.true ∙ sym c.copy.ensures.value))

pub returns-else-eq : goal.returns-else-eq
returns-else-eq c =
    let found = c.in-Some.ensures in
    subst (λ (p : List ℕ). (g : ℕ) → c.args.at ≤ g → version_of (versions_in c.args.versions.now) p g ≡ None) c.copy.ensures.value
    (first-other c.args.versions.now.content c.copy.result c.args.at c.in-Some.found.now found.above found.least
    (λ same. other-digits c.in-Some.found.now.prefix c.args.prefix.now c.eq.result c.eq.ensures c.if-eq.false (same ∙ c.copy.ensures.value)))

pub returns-in-None : goal.returns-in-None
returns-in-None c =
    subst (λ (p : List ℕ). (g : ℕ) → c.args.at ≤ g → version_of (versions_in c.args.versions.now) p g ≡ None) c.copy.ensures.value
    (first-none c.args.versions.now.content c.copy.result c.args.at c.in-None.ensures)
