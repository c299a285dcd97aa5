-- How versions are kept, and what a search among them says.
use Rattle.std.specs.Prelude.{◌≡◌, ◌≤◌, ℕ, List, length, false, Some}
use Rattle.std.specs.declared.cmp.Ordering.{Ordering}
use Rattle.std.specs.declared.cmp.Ordering.TheVariants.{Equal}
use Rattle.std.specs.Ordering.{nat_cmp}
use Rattle.smq_kit.specs.Orders.{octets_cmp}
use Rattle.smq_kit.proofs.Comparisons.{then_first, then_second}
use Rattle.smq_shelf.specs.Keeping.{KeepingMap}
use Rattle.std.specs.FinMap as fin
use Rattle.smq_route.specs.declared.version.VersionKey.{VersionKey}
use Rattle.smq_route.specs.declared.version.Version.{Version}
use Rattle.smq_route.specs.contracts.version.VersionKeyOrd.TheImpl as key_ord
use Rattle.smq_route.specs.Versions.{Versions, version_of, lasts_past}

-- the order by which a map of std compares their keys
abbrev pub kept_version_cmp : VersionKey → VersionKey → Ordering
kept_version_cmp = (key_ord.ghosts).cmp

-- keys that compare equal are one
pub one_key : (x y : VersionKey) → kept_version_cmp x y ≡ Equal → x ≡ y
one_key x y h =
    let prefixes : Ordering = octets_cmp x.prefix y.prefix in
    let moments : Ordering = nat_cmp x.from y.from in
    λ i. record {
      prefix = fin.slice_cmp-IsAntisymmetric fin.nat_cmp-IsAntisymmetric x.prefix y.prefix (then_first prefixes moments h) i;
      from = fin.nat_cmp-IsAntisymmetric x.from y.from (then_second prefixes moments h) i;
    }

-- versions that are kept as a finite map, and those that were settled
abbrev pub versions_in : KeepingMap VersionKey Version → Versions
versions_in kept = fin.from_entries kept.content

abbrev pub settled_in : KeepingMap VersionKey Version → Versions
settled_in kept = fin.from_entries kept.settled

-- No version of a prefix holds at a moment.
abbrev pub NoneHolds : Versions → List ℕ → ℕ → Type 0
NoneHolds versions prefix t =
    (from : ℕ) (v : Version) → version_of versions prefix from ≡ Some v → from ≤ t → lasts_past t v.until ≡ false

-- No version has a prefix of more digits than this.
abbrev pub AreWithin : ℕ → Versions → Type 0
AreWithin most versions = (key : VersionKey) (v : Version) → fin.get versions key ≡ Some v → length key.prefix ≤ most
