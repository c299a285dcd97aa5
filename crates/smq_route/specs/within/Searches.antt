-- What a search for the version of a number at a moment tells.
use Rattle.std.specs.Prelude.{◌≡◌, ◌<◌, ◌≤◌, ℕ, List, length, true, Some}
use Rattle.std.specs.FinMap as fin
use Rattle.smq_route.specs.declared.version.VersionKey.{VersionKey}
use Rattle.smq_route.specs.declared.version.Version.{Version}
use Rattle.smq_route.specs.declared.prefix_search.Sought.{Sought}
use Rattle.smq_route.specs.declared.prefix_search.Sought.TheVariants.{Longest, NoLonger}
use Rattle.smq_route.specs.Versions.{Versions, serves, route_at}

-- No version for a number at a moment has a prefix of more digits than this.
abbrev pub NoneLonger : Versions → List ℕ → ℕ → ℕ → Type 0
NoneLonger versions number t digits =
    (key : VersionKey) (v : Version) → fin.get versions key ≡ Some v → serves number t (key, v) ≡ true
    → length key.prefix ≤ digits

-- What is told is the version of the number, or fewer digits, of which none that serves has more.
abbrev pub Tells : Versions → List ℕ → ℕ → ℕ → Sought → Type 0
Tells versions number t digits (Longest v) = route_at versions number t ≡ Some (v.now.route, v.now.network)
Tells versions number t digits (NoLonger fewer) = (fewer < digits) × NoneLonger versions number t fewer
