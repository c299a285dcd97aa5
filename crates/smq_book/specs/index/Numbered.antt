-- The numbers of messages, at their places.
use Rattle.std.specs.Prelude.{Option, option_map}
use Rattle.std.specs.FinSet.{FinSet}
use Rattle.smq_kit.specs.declared.place.Place.{Place}
use Rattle.smq_route.specs.declared.numbers.NumberAt.{NumberAt}
use Rattle.smq_route.specs.Numbers.{number_cmp, number_at}
use Rattle.smq_present.specs.pairing.Traffic.{Message, TrafficValue}
use Rattle.smq_book.specs.index.PlacedKeys.{keys_made}

-- the number of a message at its place, if it has one
abbrev pub numbered : Place → Message → Option NumberAt
numbered place m = option_map (λ number. number_at number place) m.number

-- the numbers of the messages that have one, at their places
abbrev pub numbers_of : TrafficValue → FinSet number_cmp
numbers_of t = keys_made numbered t.messages
