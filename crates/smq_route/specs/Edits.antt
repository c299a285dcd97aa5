-- What edits of routes leave, and what refuses them.
use Rattle.std.specs.Prelude.{ℕ, nat_le, List, [], ◌∷◌, Option, Some, None, option_map}
use Rattle.std.specs.FinMap as fin
use Rattle.smq_kit.specs.declared.names.RouteId.{RouteId}
use Rattle.smq_kit.specs.declared.refusal.Refusal.{Refusal}
use Rattle.smq_kit.specs.declared.refusal.Refusal.TheVariants.{Overlap, NoRoute, Ended, BadEnd}
use Rattle.smq_route.specs.declared.version.Version.{Version}
use Rattle.smq_kit.specs.Replies.{refused_if}
use Rattle.smq_route.specs.Versions.{Versions, key_at, version_of, overlap}

-- a version of the prefix is open or ends after the new one begins; the least beginning of those is told
abbrev pub add_refusals : Versions → List ℕ → ℕ → List (Option Refusal)
add_refusals versions prefix from = option_map Overlap (overlap versions prefix from) ∷ []

-- no such version
abbrev pub no_route : Option Version → Option Refusal
no_route None = Some NoRoute
no_route (Some v) = None

-- the version has an end, which is told
abbrev pub ended : Option Version → Option Refusal
ended None = None
ended (Some v) = option_map Ended v.until

-- the end isn't after the beginning
abbrev pub bad_end : ℕ → ℕ → Option Refusal
bad_end from until = refused_if (nat_le until from) BadEnd

-- what refuses an end of a version that may be absent, in order
abbrev pub end_refusals : Option Version → ℕ → ℕ → List (Option Refusal)
end_refusals version from until = no_route version ∷ ended version ∷ bad_end from until ∷ []

-- what refuses a correction of a version that may be absent
abbrev pub correct_refusals : Option Version → List (Option Refusal)
correct_refusals version = no_route version ∷ []

-- an open version of a prefix is put in
abbrev pub added : Versions → List ℕ → ℕ → RouteId → List ℕ → Versions
added versions prefix from route network =
    fin.insert versions (key_at prefix from) (record { until = None; route = route; network = network })

-- the version of a prefix and beginning is changed by f, where it is there
abbrev pub changed_where : Option Version → Versions → List ℕ → ℕ → (Version → Version) → Versions
changed_where None versions prefix from f = versions
changed_where (Some v) versions prefix from f = fin.insert versions (key_at prefix from) (f v)

abbrev pub changed : Versions → List ℕ → ℕ → (Version → Version) → Versions
changed versions prefix from f = changed_where (version_of versions prefix from) versions prefix from f

-- a version with an end
abbrev pub ending : ℕ → Version → Version
ending until v = record v { until = Some until }

-- a version with another route and network
abbrev pub corrected : RouteId → List ℕ → Version → Version
corrected route network v = record v { route = route; network = network }
