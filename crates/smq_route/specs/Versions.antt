-- Versions of routes, by their prefixes and beginnings.
use Rattle.std.specs.Prelude.{◌≡◌, ⊤, ◌<◌, ◌≤◌, ◌&&◌, ℕ, Bool, true, nat_lt, nat_le, List, [], ◌∷◌, length, filter, map, Option, Some, None, option_map, unwrap_or, if◌then◌else◌}
use Rattle.std.specs.declared.cmp.Ordering.{Ordering}
use Rattle.std.specs.Ordering.{nat_cmp, ordering_then}
use Rattle.std.specs.FinMap as fin
use Rattle.std.specs.List.{find, list_all, starts_with}
use Rattle.std.specs.Cmp.Lexicographic.{pointwise}
use Rattle.std.specs.Prelude.{nat_eq as eqb}
use Rattle.smq_kit.specs.Numbers.{IsDigits}
use Rattle.smq_kit.specs.Orders.{octets_cmp}
use Rattle.smq_kit.specs.declared.names.RouteId.{RouteId}
use Rattle.smq_route.specs.declared.version.VersionKey.{VersionKey}
use Rattle.smq_route.specs.declared.version.Version.{Version}

-- the order of versions: by prefix, then by beginning
abbrev pub version_cmp : VersionKey → VersionKey → Ordering
version_cmp a b = ordering_then (octets_cmp a.prefix b.prefix) (nat_cmp a.from b.from)

-- versions by their prefixes and beginnings
abbrev pub Versions : Type 0
Versions = fin.FinMap version_cmp Version

-- the key of a version
abbrev pub key_at : List ℕ → ℕ → VersionKey
key_at prefix from = record { prefix = prefix; from = from }

-- the version of a prefix that begins at a moment
abbrev pub version_of : Versions → List ℕ → ℕ → Option Version
version_of versions prefix from = fin.get versions (key_at prefix from)

-- whether what has this end, or none, is open or ends after a moment
abbrev pub lasts_past : ℕ → Option ℕ → Bool
lasts_past t None = true
lasts_past t (Some until) = nat_lt t until

-- whether a version holds at a moment: it begins at or before it, and doesn't end by it
abbrev pub holds : ℕ → VersionKey × Version → Bool
holds t e = nat_le e.0.from t && lasts_past t e.1.until

-- whether a prefix begins a number
abbrev pub begins : List ℕ → List ℕ → Bool
begins number prefix = starts_with eqb number prefix

-- whether a version is one for a number at a moment: its prefix begins the number, and it holds then
abbrev pub serves : List ℕ → ℕ → VersionKey × Version → Bool
serves number t e = begins number e.0.prefix && holds t e

-- whether none of the versions has a longer prefix than this one
abbrev pub is_longest : List (VersionKey × Version) → VersionKey × Version → Bool
is_longest others e = list_all (λ other. nat_le (length other.0.prefix) (length e.0.prefix)) others

-- the version than which no other has a longer prefix
abbrev pub longest : List (VersionKey × Version) → Option (VersionKey × Version)
longest versions = find (is_longest versions) versions

-- The version of a number at a moment: of those that hold then and whose prefix begins the number, the one with the
-- longest prefix.
abbrev pub version_at : Versions → List ℕ → ℕ → Option (VersionKey × Version)
version_at versions number t = longest (filter (serves number t) (fin.entries versions))

-- its route and network
abbrev pub route_at : Versions → List ℕ → ℕ → Option (RouteId × List ℕ)
route_at versions number t = option_map (λ e. (e.1.route, e.1.network)) (version_at versions number t)

-- the least of numbers
abbrev pub least : List ℕ → Option ℕ
least [] = None
least (n ∷ ns) = Some (unwrap_or (option_map (λ m. if nat_lt m n then m else n) (least ns)) n)

-- whether a version is one of this prefix
abbrev pub is_of : List ℕ → VersionKey × Version → Bool
is_of prefix e = pointwise eqb e.0.prefix prefix

-- the least beginning of the versions of a prefix that are open or end after a moment
abbrev pub overlap : Versions → List ℕ → ℕ → Option ℕ
overlap versions prefix from =
    least (map (λ e. e.0.from) (filter (λ e. is_of prefix e && lasts_past from e.1.until) (fin.entries versions)))

-- what has this end, or none, has ended by a moment
abbrev pub EndsBy : ℕ → Option ℕ → Type 0
EndsBy t None = ⊥
EndsBy t (Some until) = until ≤ t

-- what has this end, or none, is open or ends after a moment
abbrev pub LastsPast : ℕ → Option ℕ → Type 0
LastsPast t None = ⊤
LastsPast t (Some until) = t < until

-- Each version has a prefix of digits and ends after its beginning, if at all. Of two versions of one prefix the earlier
-- has ended when the other begins.
pub record AreApart (versions : Versions) : Type 0 where
  pub digits : (prefix : List ℕ) (from : ℕ) (v : Version) → version_of versions prefix from ≡ Some v → IsDigits prefix
  pub forward : (prefix : List ℕ) (from : ℕ) (v : Version) → version_of versions prefix from ≡ Some v
      → LastsPast from v.until
  pub apart : (prefix : List ℕ) (from later : ℕ) (v w : Version) → version_of versions prefix from ≡ Some v
      → version_of versions prefix later ≡ Some w → from < later → EndsBy later v.until
