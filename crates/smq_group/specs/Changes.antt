-- What a change of a grouping does to the standings of its members.
use Rattle.std.specs.Prelude.{◌≡◌, Bool, true, false, if◌then◌else◌, List, [], ◌∷◌, ◌++◌, map, Option, Some, None, option_map}
use Rattle.std.specs.Ordering.{eq_by_cmp}
use Rattle.std.specs.FinMap as fin
use Rattle.std.specs.List.Sorted.{IsStrictlySortedBy}
use Rattle.smq_kit.specs.declared.place.Place.{Place}
use Rattle.smq_kit.specs.Orders.{place_cmp}
use Rattle.smq_kit.specs.Maps.{same_option}
use Rattle.smq_group.specs.declared.change.Change.{Change}
use Rattle.smq_group.specs.declared.change.Standing as told
use Rattle.smq_group.specs.declared.change.Standing.TheVariants as t
use Rattle.smq_group.specs.Matching as m
use Rattle.smq_group.specs.Matching.{Grouping, submit_standing, receipt_standing}

-- how a standing of a submit is told
abbrev pub told_of_submit : m.Standing → told.Standing
told_of_submit (m.Single place) = t.Single place
told_of_submit m.Shared = t.Shared

-- how a standing of a receipt is told
abbrev pub told_of_receipt : m.ReceiptStanding → told.Standing
told_of_receipt m.Stray = t.Stray
told_of_receipt m.Deciding = t.Deciding
told_of_receipt m.Extra = t.Extra
told_of_receipt m.Noted = t.Noted
told_of_receipt m.KeyShared = t.Shared

-- how the submit at a place stands, where there is one
abbrev pub submit_at : Grouping → Place → Option told.Standing
submit_at g place = option_map (λ key. told_of_submit (submit_standing g key)) (fin.get g.submits place)

-- how the receipt at a place stands, where there is one
abbrev pub receipt_at : Grouping → Place → Option told.Standing
receipt_at g place = option_map (λ r. told_of_receipt (receipt_standing g place r)) (fin.get g.receipts place)

-- whether two standings are one
abbrev pub same_standing : told.Standing → told.Standing → Bool
same_standing (t.Single a) (t.Single b) = same_option (eq_by_cmp place_cmp) a b
same_standing t.Shared t.Shared = true
same_standing t.Stray t.Stray = true
same_standing t.Deciding t.Deciding = true
same_standing t.Extra t.Extra = true
same_standing t.Noted t.Noted = true
same_standing _ _ = false

-- the standing now, where there is one and it isn't the one before
abbrev pub changed : Option told.Standing → Option told.Standing → Option told.Standing
changed before None = None
changed before (Some now) = if same_option same_standing before (Some now) then None else Some now

-- the standing that is told of a place
abbrev pub told_at : Place → List Change → Option told.Standing
told_at place [] = None
told_at place (c ∷ cs) = if eq_by_cmp place_cmp place c.place then Some c.standing else told_at place cs

-- Changes that tell exactly what differs: first the submits whose standing changed or began, by place, each with its
-- standing now, then such receipts.
pub record TellsChanges (before after : Grouping) (changes : List Change) : Type 0 where
  pub submits : List Change
  pub receipts : List Change
  pub parts : changes ≡ submits ++ receipts
  pub submits_by_place : IsStrictlySortedBy place_cmp (map (λ c. c.place) submits)
  pub receipts_by_place : IsStrictlySortedBy place_cmp (map (λ c. c.place) receipts)
  pub each_submit : (place : Place) → told_at place submits ≡ changed (submit_at before place) (submit_at after place)
  pub each_receipt : (place : Place) → told_at place receipts ≡ changed (receipt_at before place) (receipt_at after place)
