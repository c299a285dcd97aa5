-- What the standings that groups tell say of facts and notes.
use Rattle.std.specs.Prelude.{Bool, List, ◌∷◌, map, Option, Some, None}
use Rattle.smq_kit.specs.declared.place.Place.{Place}
use Rattle.smq_tally.specs.declared.list.List as l
use Rattle.smq_tally.specs.declared.list.List.TheVariants.{StrayReceipts, AmbiguousReceipts, ExtraReceipts}
use Rattle.smq_group.specs.declared.change.Change.{Change}
use Rattle.smq_group.specs.declared.change.Standing as told
use Rattle.smq_group.specs.declared.change.Standing.TheVariants as t
use Rattle.smq_group.specs.Matching as m
use Rattle.smq_present.specs.present.Settings.{SettingsValue}
use Rattle.smq_present.specs.pairing.Traffic.{Message, TrafficValue}
use Rattle.smq_present.specs.join.Circumstances.{Circumstances, decider_in, route_in, lapsed_in}
use Rattle.smq_present.specs.join.Listings.{is_named}

-- the place of a move, and those of which changes tell
abbrev pub told_places : Place → List Change → List Place
told_places q changes = q ∷ map (λ c. c.place) changes

-- how an accepted message stands, as it is told
abbrev pub standing_told : told.Standing → Option m.Standing
standing_told (t.Single place) = Some (m.Single place)
standing_told t.Shared = Some m.Shared
standing_told _ = None

-- the circumstances of a message whose standing is told: the receipt at the place that is told decides it
abbrev pub circumstances_told : SettingsValue → TrafficValue → Message → told.Standing → Circumstances
circumstances_told s traffic message standing = record {
  standing = standing_told standing;
  decider = decider_in traffic (standing_told standing);
  route = route_in s.versions message;
  lapsed = lapsed_in s message;
}

-- the list of a delivery receipt whose standing is told, if it has one
abbrev pub list_told : told.Standing → Option l.List
list_told t.Stray = Some StrayReceipts
list_told t.Shared = Some AmbiguousReceipts
list_told t.Extra = Some ExtraReceipts
list_told _ = None

-- whether a list is the one of a standing that is told
abbrev pub is_list_told : told.Standing → l.List → Bool
is_list_told standing list = is_named list (list_told standing)
