-- What is told of a key's members when its outlook changes.
use Rattle.std.specs.Prelude.{ℕ, ◌≡◌, ⊤, Bool, not, ◌==◌, ◌&&◌, min, if◌then◌else◌, List, [], ◌∷◌, map, Option, Some, None}
use Rattle.std.specs.Ordering.{eq_by_cmp, is_lt}
use Rattle.std.specs.List.Sorted.{IsStrictlySortedBy}
use Rattle.std.specs.Map.{keys_of}
use Rattle.std.specs.Option.{option_or}
use Rattle.smq_kit.specs.declared.place.Place.{Place}
use Rattle.smq_kit.specs.Orders.{place_cmp}
use Rattle.smq_kit.specs.Maps.{same_option}
use Rattle.smq_group.specs.declared.change.Change.{Change}
use Rattle.smq_group.specs.declared.change.Standing.{Standing}
use Rattle.smq_group.specs.declared.change.Standing.TheVariants.{Deciding, Extra}
use Rattle.smq_group.specs.declared.changes.Added.{Added}
use Rattle.smq_group.specs.declared.changes.Added.TheVariants as put
use Rattle.smq_group.specs.declared.changes.Turn.{Turn}
use Rattle.smq_group.specs.declared.changes.Turn.TheVariants.{Each, Deciders, Newcomer}
use Rattle.smq_group.specs.declared.member.ReceiptFacts.{ReceiptFacts}
use Rattle.smq_group.specs.declared.group_summary.Group.{Group}
use Rattle.smq_group.specs.declared.group_summary.GroupSummary.{GroupSummary}
use Rattle.smq_group.specs.within.Outlooks.{decider_of, submit_standing_of, receipt_standing_of}
use Rattle.smq_group.specs.within.Walked.{only_of}

-- a standing at a place
abbrev pub change_at : Place → Standing → Change
change_at place standing = record { place = place; standing = standing }

-- whether two outlooks have the same deciding receipt
abbrev pub same_decider : GroupSummary → GroupSummary → Bool
same_decider before after = same_option (eq_by_cmp place_cmp) (decider_of before) (decider_of after)

-- Each member's standing changes where the number of submits passes between none, one and more; where one submit has
-- another deciding receipt, those of the submit and of the two receipts do; and else that of the member that is put in.
abbrev pub turn_between : GroupSummary → GroupSummary → Turn
turn_between before after =
    if not (min before.matches 2 == min after.matches 2) then Each
    else (if (after.matches == 1) && not (same_decider before after) then Deciders else Newcomer)

-- the changes of submits
abbrev pub submit_changes : GroupSummary → List (Place × Bool) → List Change
submit_changes o members = map (λ m. change_at m.0 (submit_standing_of o)) members

-- the changes of receipts
abbrev pub receipt_changes : GroupSummary → List (Place × ReceiptFacts) → List Change
receipt_changes o members = map (λ m. change_at m.0 (receipt_standing_of o m.0 m.1.decides)) members

-- the change of the submit that is put in, if one is
abbrev pub newcomer_submit : GroupSummary → Added → List Change
newcomer_submit o (put.Submit place) = change_at place (submit_standing_of o) ∷ []
newcomer_submit o _ = []

-- the change of the receipt that is put in, if one is
abbrev pub newcomer_receipt : GroupSummary → Added → List Change
newcomer_receipt o (put.Receipt place decides) = change_at place (receipt_standing_of o place decides) ∷ []
newcomer_receipt o _ = []

-- the receipt that decided, where it is there still: where another is put in
abbrev pub rival : GroupSummary → Added → Option Place
rival before (put.Receipt _ _) = decider_of before
rival before _ = None

-- the receipt that decided, where it is there still, and the one that decides, by place
abbrev pub decider_changes : Option Place → Option Place → List Change
decider_changes _ None = []
decider_changes None (Some d) = change_at d Deciding ∷ []
decider_changes (Some r) (Some d) =
    if is_lt (place_cmp d r) then change_at d Deciding ∷ change_at r Extra ∷ [] else change_at r Extra ∷ change_at d Deciding ∷ []

-- the changes that are told of submits
abbrev pub changes_of_submits : Turn → GroupSummary → Added → List (Place × Bool) → List Change
changes_of_submits Newcomer after added members = newcomer_submit after added
changes_of_submits _ after added members = submit_changes after members

-- the changes that are told of receipts
abbrev pub told_receipts : Turn → GroupSummary → GroupSummary → Added → List (Place × ReceiptFacts) → List Change
told_receipts Each before after added members = receipt_changes after members
told_receipts Deciders before after added members = decider_changes (rival before added) (decider_of after)
told_receipts Newcomer before after added members = newcomer_receipt after added

-- where a place is given, it is that of the only one of members
abbrev pub IsKnown : Option Place → List (Place × Bool) → Type 0
IsKnown None members = ⊤
IsKnown (Some place) members = only_of members ≡ Some place

-- the place of the submit that is left where just one is: that of the first change
abbrev pub sole_submit_left : ℕ → List Change → Option Place
sole_submit_left matches [] = None
sole_submit_left matches (c ∷ cs) = if matches == 1 then Some c.place else None

-- what is kept of a group once a member is taken out: the place of its only submit was known, or is that of the one left
abbrev pub kept_group : GroupSummary → Option Place → List Change → Group
kept_group after only changes = record { outlook = after; only = option_or only (sole_submit_left after.matches changes) }

-- the submits that are told stand by place, where each is told
abbrev pub SubmitsByPlace : Turn → List (Place × Bool) → Type 0
SubmitsByPlace Newcomer members = ⊤
SubmitsByPlace _ members = IsStrictlySortedBy place_cmp (keys_of members)

-- and so do the receipts
abbrev pub ReceiptsByPlace : Turn → List (Place × ReceiptFacts) → Type 0
ReceiptsByPlace Each members = IsStrictlySortedBy place_cmp (keys_of members)
ReceiptsByPlace _ members = ⊤
