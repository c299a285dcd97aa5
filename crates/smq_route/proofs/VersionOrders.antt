-- The order of versions is total, and versions that compare equal have one key.
use Rattle.std.proofs.Common.{◌≡◌, ℕ, List, refl, ap}
use Rattle.std.specs.declared.cmp.Ordering.{Ordering}
use Rattle.std.specs.Ordering.{nat_cmp, ordering_then}
use Rattle.std.specs.Cmp.{IsTotalOrder, tied_itself}
use Rattle.std.proofs.lemmas.Cmp.{on_total, then_total, nat_cmp_total, nat_list_cmp_total}
use Rattle.std.specs.FinMap.{IsAntisymmetric}
use Rattle.smq_route.specs.Versions.{version_cmp, key_at}
use Rattle.smq_route.specs.within.Kept.{kept_version_cmp, one_key}

pub version-order : kept_version_cmp ≡ version_cmp
version-order = refl

pub versions_total : IsTotalOrder version_cmp
versions_total = then_total (on_total (λ k. k.prefix) nat_list_cmp_total) (on_total (λ k. k.from) nat_cmp_total)

pub versions_exact : IsAntisymmetric version_cmp
versions_exact = one_key

-- of one prefix versions are ordered by their beginnings
pub in-prefix : (p : List ℕ) (a b : ℕ) → version_cmp (key_at p a) (key_at p b) ≡ nat_cmp a b
in-prefix p a b = ap (λ (r : Ordering). ordering_then r (nat_cmp a b)) (tied_itself nat_list_cmp_total p)
