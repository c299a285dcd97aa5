-- Versions that are written out, of which it is known what holds when.
use Rattle.std.specs.Prelude.{ℕ, List, [], ◌∷◌, Option, Some, None, codes, map}
use Rattle.std.specs.FinMap as fin
use Rattle.smq_kit.specs.declared.names.RouteId.{RouteId}
use Rattle.smq_route.specs.declared.version.VersionKey.{VersionKey}
use Rattle.smq_route.specs.declared.version.Version.{Version}
use Rattle.smq_route.specs.Versions.{Versions, key_at, route_at}
use Rattle.smq_route.specs.Edits.{added, changed, ending}

-- a route by its number
abbrev pub route : ℕ → RouteId
route n = record { 0 = n }

-- a version of this end, route and network
abbrev pub version : Option ℕ → ℕ → List ℕ → Version
version until n network = record { until = until; route = route n; network = network }

-- Versions of 4, 44, 447 and 4477: of 44 one after another with a gap, of 447 two that adjoin, of the others one open.
abbrev pub plan_versions : List (VersionKey × Version)
plan_versions =
    (key_at (codes "4") 0, version None 1 (codes "20404"))
    ∷ (key_at (codes "44") 1000, version (Some 2000) 2 (codes "23410"))
    ∷ (key_at (codes "44") 3000, version None 3 (codes "23415"))
    ∷ (key_at (codes "447") 1500, version (Some 1600) 4 (codes "23420"))
    ∷ (key_at (codes "447") 1600, version (Some 1700) 5 (codes "23430"))
    ∷ (key_at (codes "4477") 4000, version None 6 (codes "234033"))
    ∷ []

abbrev pub plan : Versions
plan = fin.from_entries plan_versions

-- a route and its network
abbrev pub routed : ℕ → List ℕ → Option (RouteId × List ℕ)
routed n network = Some (route n, network)

-- what the number 447700900123 has in the plan
abbrev pub at_moment : ℕ → Option (RouteId × List ℕ)
at_moment t = route_at plan (codes "447700900123") t

-- the prefixes and beginnings of versions, in order
abbrev pub keys_of : Versions → List VersionKey
keys_of versions = map (λ e. e.0) (fin.entries versions)

-- Versions as they come: of 45, of 447, and of 44, which ends at 5 and is added anew from then on.
abbrev pub added_first : Versions
added_first =
    added (added (added fin.empty (codes "45") 0 (route 1) (codes "23410")) (codes "447") 0 (route 2) (codes "23410"))
    (codes "44") 0 (route 3) (codes "23410")

abbrev pub unsorted : Versions
unsorted = added (changed added_first (codes "44") 0 (ending 5)) (codes "44") 5 (route 4) (codes "23410")
