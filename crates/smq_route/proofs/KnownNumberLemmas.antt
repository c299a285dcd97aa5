-- What the numbers are that specs/KnownNumbers.antt writes out.
use Rattle.std.proofs.Common.{◌≡◌, ℕ, List, [], ◌∷◌, ap, ◌∙◌}
use Rattle.std.specs.Map.{keys_of}
use Rattle.std.specs.FinMap.{entries, entries-insert, from_entries, put}
use Rattle.smq_kit.proofs.MapLemmas as maps
use Rattle.smq_route.specs.declared.numbers.NumberAt.{NumberAt}
use Rattle.smq_route.specs.KnownNumbers.{known, sent_numbers}
use Rattle.smq_route.specs.Numbers.{number_cmp, of_prefix, places_under}
use Rattle.smq_route.proofs.NumberOrders.{numbers_exact, numbers_total}

-- entries put in one by one, the last of the list first
abbrev pub puts : List (NumberAt × Unit {0}) → List (NumberAt × Unit {0})
puts [] = []
puts (e ∷ es) = put number_cmp e.0 e.1 (puts es)

entries-puts : (es : List (NumberAt × Unit {0})) → entries (from_entries {R = number_cmp} es) ≡ puts es
entries-puts [] = maps.entries-from_entries numbers_total numbers_exact [] tt
entries-puts (e ∷ es) = entries-insert numbers_total (from_entries es) e.0 e.1 ∙ ap (put number_cmp e.0 e.1) (entries-puts es)

pub known-under : (prefix : List ℕ) → places_under known prefix ≡ of_prefix prefix (keys_of (puts sent_numbers))
known-under prefix = ap (λ (es : List (NumberAt × Unit {0})). of_prefix prefix (keys_of es)) (entries-puts sent_numbers)
