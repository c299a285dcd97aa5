-- What a walk over the numbers that begin with a prefix meets.
use Rattle.std.specs.Prelude.{ℕ, Bool, not, List, map, filter, Option, is_some}
use Rattle.smq_kit.specs.declared.place.Place.{Place}
use Rattle.smq_shelf.specs.Places.{content_of}
use Rattle.smq_route.specs.declared.numbers.NumberAt.{NumberAt}
use Rattle.smq_route.specs.Versions.{begins}

-- a place of a shelf of numbers: vacant, or not
abbrev pub Spot : Type 0
Spot = NumberAt × Option (Unit {0})

-- whether an entry's number begins with a prefix
abbrev pub is_under : {X : Type 0} → List ℕ → NumberAt × X → Bool
is_under prefix e = begins e.0.number prefix

-- the places of entries
abbrev pub placed : {X : Type 0} → List (NumberAt × X) → List Place
placed es = map (λ e. e.0.place) es

-- the places of those that aren't vacant
abbrev pub filled : List Spot → List Place
filled spots = placed (content_of spots)

-- the numbers of those that are
abbrev pub vacant_numbers : List Spot → List (List ℕ)
vacant_numbers spots = map (λ e. e.0.number) (filter (λ e. not (is_some e.1)) spots)
