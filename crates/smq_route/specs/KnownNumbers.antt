-- Numbers that are written out, of which it is known which a prefix begins.
use Rattle.std.specs.Prelude.{ℕ, List, [], ◌∷◌, codes}
use Rattle.std.specs.FinMap as fin
use Rattle.std.specs.FinSet.{FinSet}
use Rattle.smq_kit.specs.declared.place.Dir.TheVariants.{FromClient}
use Rattle.smq_kit.specs.declared.place.Place.{Place}
use Rattle.smq_route.specs.declared.numbers.NumberAt.{NumberAt}
use Rattle.smq_route.specs.Numbers.{number_at, number_cmp}

-- a place of session 1
abbrev pub client_at : ℕ → Place
client_at offset = record { session = record { 0 = 1 }; dir = FromClient; offset = offset }

-- a number at such a place
abbrev pub sent : List ℕ → ℕ → NumberAt × Unit {0}
sent number offset = (number_at number (client_at offset), tt)

-- 447, 4477 and 49 at a place each, and 4479 at two, as they come
abbrev pub sent_numbers : List (NumberAt × Unit {0})
sent_numbers = sent (codes "4479") 60 ∷ sent (codes "49") 30 ∷ sent (codes "4477") 0 ∷ sent (codes "4479") 20 ∷ sent (codes "447") 40 ∷ []

-- the set of these
abbrev pub known : FinSet number_cmp
known = fin.from_entries sent_numbers
