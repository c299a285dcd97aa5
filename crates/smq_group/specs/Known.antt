-- Groups of which it is known how each member stands.
use Rattle.std.specs.Prelude.{ℕ, true, false, List, [], ◌∷◌}
use Rattle.std.specs.FinMap as fin
use Rattle.smq_kit.specs.declared.message_id.Key.TheVariants as k
use Rattle.smq_kit.specs.declared.link_key.LinkKey.{LinkKey}
use Rattle.smq_kit.specs.declared.names.LinkId.{LinkId}
use Rattle.smq_kit.specs.declared.place.Dir.TheVariants.{FromClient, FromCentre}
use Rattle.smq_kit.specs.declared.place.Place.{Place}
use Rattle.smq_group.specs.declared.change.Change.{Change}
use Rattle.smq_group.specs.declared.change.Standing.{Standing}
use Rattle.smq_group.specs.Matching.{Grouping, GroupedReceipt}

-- places of session 1
abbrev pub client_at : ℕ → Place
client_at offset = record { session = record { 0 = 1 }; dir = FromClient; offset = offset }

abbrev pub centre_at : ℕ → Place
centre_at offset = record { session = record { 0 = 1 }; dir = FromCentre; offset = offset }

-- key 7 of a link
abbrev pub key_of_link : ℕ → LinkKey
key_of_link link = record { link = record { 0 = link }; key = k.Number 7 }

-- a receipt of key 7 of link 1 that can decide, and one that can't, at a moment
abbrev pub final : ℕ → GroupedReceipt
final moment = record { key = key_of_link 1; moment = moment; decides = true }

abbrev pub interim : ℕ → GroupedReceipt
interim moment = record { key = key_of_link 1; moment = moment; decides = false }

-- submits and receipts by place
abbrev pub grouped : List (Place × LinkKey) → List (Place × GroupedReceipt) → Grouping
grouped submits receipts = record { submits = fin.from_entries submits; receipts = fin.from_entries receipts }

-- no submit, one, and two, of key 7 of link 1
abbrev pub none : List (Place × LinkKey)
none = []

abbrev pub one : List (Place × LinkKey)
one = (client_at 0, key_of_link 1) ∷ []

abbrev pub two : List (Place × LinkKey)
two = (client_at 0, key_of_link 1) ∷ (client_at 49, key_of_link 1) ∷ []

-- a submit of key 7 of link 2, and with it that of link 1
abbrev pub elsewhere : List (Place × LinkKey)
elsewhere = (client_at 49, key_of_link 2) ∷ []

abbrev pub both_links : List (Place × LinkKey)
both_links = (client_at 0, key_of_link 1) ∷ (client_at 49, key_of_link 2) ∷ []

-- a receipt alone, a second that came earlier, and two of one moment
abbrev pub late : List (Place × GroupedReceipt)
late = (centre_at 18, final 5000) ∷ []

abbrev pub late_and_early : List (Place × GroupedReceipt)
late_and_early = (centre_at 18, final 5000) ∷ (centre_at 90, final 4000) ∷ []

abbrev pub tied : List (Place × GroupedReceipt)
tied = (centre_at 18, final 5000) ∷ (centre_at 90, final 5000) ∷ []

-- one that can't decide, alone and before one that can
abbrev pub undecided : List (Place × GroupedReceipt)
undecided = (centre_at 18, interim 1000) ∷ []

abbrev pub decided_late : List (Place × GroupedReceipt)
decided_late = (centre_at 18, interim 1000) ∷ (centre_at 90, final 4000) ∷ []

-- a link
abbrev pub link_of : ℕ → LinkId
link_of number = record { 0 = number }

-- submits of keys 7 and 3 of link 1, and between them one of key 7 of link 2
abbrev pub on_two_links : List (Place × LinkKey)
on_two_links =
    (client_at 0, key_of_link 1) ∷ (client_at 49, key_of_link 2) ∷ (client_at 98, record { link = link_of 1; key = k.Number 3 }) ∷ []

-- a receipt of key 7 of link 2, and one of link 1
abbrev pub received : List (Place × GroupedReceipt)
received = (centre_at 18, record { key = key_of_link 2; moment = 4000; decides = true }) ∷ (centre_at 90, interim 5000) ∷ []

-- a change
abbrev pub told : Place → Standing → Change
told place standing = record { place = place; standing = standing }
