-- Numbers of messages, with the places of these.
use Rattle.std.specs.Prelude.{ℕ, List, [], map, filter, count_by, refl}
use Rattle.std.specs.declared.cmp.Ordering.{Ordering}
use Rattle.std.specs.Ordering.{ordering_then}
use Rattle.std.specs.FinMap as fin
use Rattle.std.specs.FinSet as set
use Rattle.std.specs.Coded.{Coded, code_by, coded×, coded_list, coded_ℕ}
use Rattle.smq_kit.specs.declared.place.Place.{Place}
use Rattle.smq_kit.specs.Orders.{octets_cmp, place_cmp}
use Rattle.smq_route.specs.declared.numbers.NumberAt.{NumberAt}
use Rattle.smq_route.specs.contracts.numbers.NumberAt as block
use Rattle.smq_route.specs.Versions.{begins}

-- by the number's octets, then by the place
abbrev pub number_cmp : NumberAt → NumberAt → Ordering
number_cmp a b = ordering_then (octets_cmp a.number b.number) (place_cmp a.place b.place)

-- a number at a place
abbrev pub number_at : List ℕ → Place → NumberAt
number_at number place = record { number = number; place = place }

pub record NumbersValue : Type 0 where
  pub numbers : set.FinSet number_cmp
  -- the numbers at the last `settle`, or none
  pub settled : set.FinSet number_cmp
  pub touches : ℕ
  -- how many changes `undo` would take back
  pub pending : ℕ
  -- the numbers that were taken out since: one for each place that is vacant now, which a walk still passes
  pub vacant : List (List ℕ)

-- they are stored as these five
abbrev pub numbers_code : Coded NumbersValue
numbers_code =
    code_by (set.FinSet number_cmp × (set.FinSet number_cmp × (ℕ × (ℕ × List (List ℕ)))))
    (coded× (set.code (block.the_row).coded) (coded× (set.code (block.the_row).coded) (coded× coded_ℕ (coded× coded_ℕ (coded_list (coded_list coded_ℕ))))))
    (λ n. (n.numbers, (n.settled, (n.touches, (n.pending, n.vacant)))))
    (λ m. record { numbers = m.0; settled = m.1.0; touches = m.1.1.0; pending = m.1.1.1.0; vacant = m.1.1.1.1 }) (λ _. refl)

-- no numbers, never touched
abbrev pub no_numbers : NumbersValue
no_numbers = record { numbers = fin.empty; settled = fin.empty; touches = 0; pending = 0; vacant = [] }

-- the same once there were so many touches
abbrev pub with_touches : ℕ → NumbersValue → NumbersValue
with_touches touches n = record n { touches = touches }

-- of numbers at places, the places of those that begin with a prefix
abbrev pub of_prefix : List ℕ → List NumberAt → List Place
of_prefix prefix numbers = map (λ e. e.place) (filter (λ e. begins e.number prefix) numbers)

-- the places of the messages to numbers that begin with a prefix, by number, then by place
abbrev pub places_under : set.FinSet number_cmp → List ℕ → List Place
places_under numbers prefix = of_prefix prefix (fin.keys numbers)

-- how many places of numbers that begin with a prefix are vacant
abbrev pub vacancies : NumbersValue → List ℕ → ℕ
vacancies n prefix = count_by (λ number. begins number prefix) n.vacant
