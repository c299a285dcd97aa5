-- How members stand, by place.
use Rattle.std.specs.Prelude.{◌≡◌, Option, Some, None}
use Rattle.std.specs.Option.{option_or}
use Rattle.std.specs.FinMap as fin
use Rattle.smq_kit.specs.declared.place.Place.{Place}
use Rattle.smq_kit.specs.declared.link_key.LinkKey.{LinkKey}
use Rattle.smq_group.specs.declared.change.Standing.{Standing}
use Rattle.smq_group.specs.Changes.{submit_at, receipt_at}
use Rattle.smq_group.specs.Matching.{Grouping}

-- how the member at a place stands, if there is one
abbrev pub standing_at : Grouping → Place → Option Standing
standing_at g place = option_or (submit_at g place) (receipt_at g place)

-- No receipt stands at the place of a message.
pub record StandApart (g : Grouping) : Type 0 where
  pub apart : (place : Place) (key : LinkKey) → fin.get g.submits place ≡ Some key → fin.get g.receipts place ≡ None
