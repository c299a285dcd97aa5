-- What there is of each key of each link: which message is accepted with it, where it is one alone, and which receipt decides that; and
-- what is told of receipts by that.
use Rattle.std.specs.Prelude.{◌≡◌, ℕ, Bool, true, if◌then◌else◌, List, [], ◌∷◌, map, length, get_or, Option, Some, None, ⊤}
use Rattle.std.specs.List.{AllZip}
use Rattle.std.specs.Ordering.{is_gt}
use Rattle.smq_kit.specs.declared.link_key.LinkKey.{LinkKey}
use Rattle.smq_kit.specs.declared.place.Place.{Place}
use Rattle.smq_kit.specs.LinkKeys.{link_key}
use Rattle.smq_present.specs.join.Keyed.{can_decide}
use Rattle.smq_present.specs.join.Lines.{ReceiptLineValue}
use Rattle.smq_present.specs.within.Accepted.{decider_with}
use Rattle.smq_present.specs.within.Messages.{SubmittedMessage}
use Rattle.smq_present.specs.within.Receipts.{KeyedReceipt, PlacedReceipt, candidates, least_receipt, receipt_cmp}
use Rattle.smq_scratch.specs.Lines.{accepted_among, standing_by}
use Rattle.smq_scratch.specs.declared.groups.Group.{Group}
use Rattle.smq_scratch.specs.declared.groups.Groups.{Groups}
use Rattle.smq_scratch.specs.declared.groups.Match.{Match}
use Rattle.smq_scratch.specs.declared.groups.Match.TheVariants.{One, Many}
use Rattle.smq_scratch.specs.declared.receipts.NumberedReceipt.{NumberedReceipt}
use Rattle.smq_scratch.specs.within.KeyNumbers.{AreNumbered, index_of, is_key}

-- which of these messages there is, where there are any
abbrev pub match_of : List SubmittedMessage → Option Match
match_of [] = None
match_of (m ∷ []) = Some (One m.place)
match_of (m ∷ n ∷ ms) = Some Many

-- what a match is with one more message, at a place
abbrev pub match_with : Option Match → Place → Match
match_with None place = One place
match_with (Some found) place = Many

-- how many messages match, as far as it matters: 2 stands for any number from 2 on
abbrev pub number_in : Option Match → ℕ
number_in None = 0
number_in (Some (One place)) = 1
number_in (Some Many) = 2

-- the place of the one that matches
abbrev pub place_in : Option Match → Option Place
place_in None = None
place_in (Some (One place)) = Some place
place_in (Some Many) = None

-- ---- what there is of one key

-- nothing
abbrev pub no_group : Group
no_group = record { found = None; decider = None }

-- what these messages and receipts say of it
abbrev pub group_of : LinkKey → List SubmittedMessage → List KeyedReceipt → Group
group_of key submits receipts = record {
  found = match_of (accepted_among key submits);
  decider = least_receipt (candidates key receipts);
}

-- the same with one more message, at a place
abbrev pub with_message : Place → Group → Group
with_message place group = record group { found = Some (match_with group.found place) }

-- whether a receipt comes before that which decides so far
abbrev pub is_least : Option PlacedReceipt → PlacedReceipt → Bool
is_least None receipt = true
is_least (Some decider) receipt = is_gt (receipt_cmp decider receipt)

-- the same with one more receipt
abbrev pub with_receipt : PlacedReceipt → Group → Group
with_receipt receipt group =
    if can_decide receipt.receipt then record group { decider = Some (decider_with group.decider receipt) } else group

-- ---- what there is of each key, by its number

-- what is kept under a number
abbrev pub group_by : List Group → Option ℕ → Group
group_by groups None = no_group
group_by groups (Some number) = get_or groups number no_group

-- what is kept of a key
abbrev pub group_kept : Groups → LinkKey → Group
group_kept kept key = group_by kept.groups.items (index_of key kept.keys.keys.items)

-- Each key has its number, and something is kept under each number.
pub record AreGrouped (kept : Groups) : Type 0 where
  pub numbered : AreNumbered kept.keys
  pub lengths : length kept.groups.items ≡ length kept.keys.keys.items

-- What is kept of each key is what these messages and receipts say of it.
abbrev pub HasGroups : Groups → List SubmittedMessage → List KeyedReceipt → Type 0
HasGroups kept submits receipts = (key : LinkKey) → group_kept kept key ≡ group_of key submits receipts

-- Keys keep their numbers.
abbrev pub NumbersStay : List LinkKey → List LinkKey → Type 0
NumbersStay old new = (key : LinkKey) (number : ℕ) → index_of key old ≡ Some number → index_of key new ≡ Some number

-- A key has a number, and what is kept of it, and of no other, is changed so.
pub record Changes (old new : Groups) (key : LinkKey) (n : ℕ) (change : Group → Group) : Type 0 where
  pub grouped : AreGrouped new
  pub number : index_of key new.keys.keys.items ≡ Some n
  pub stay : NumbersStay old.keys.keys.items new.keys.keys.items
  pub at : (other : LinkKey) → group_kept new other ≡ (if is_key other key then change (group_kept old other) else group_kept old other)

-- A number is that of a key, where there is one.
abbrev pub IsNumberOf : List LinkKey → Option LinkKey → Option ℕ → Type 0
IsNumberOf keys None None = ⊤
IsNumberOf keys None (Some number) = ⊥
IsNumberOf keys (Some key) None = ⊥
IsNumberOf keys (Some key) (Some number) = index_of key keys ≡ Some number

-- What is kept of these messages, whose keys have these numbers.
pub record HasSubmits (kept : Groups) (submits : List SubmittedMessage) (made : List (Option ℕ)) : Type 0 where
  pub grouped : AreGrouped kept
  pub groups : HasGroups kept submits []
  pub numbers : AllZip (λ (m : SubmittedMessage) (number : Option ℕ). IsNumberOf kept.keys.keys.items m.key number) submits made

-- the key of a receipt
abbrev pub key_in : NumberedReceipt → LinkKey
key_in r = link_key r.receipt.link r.form r.receipt.receipt.id

-- A receipt with its key has the number of that.
pub record IsNumberedReceipt (keys : List LinkKey) (e : KeyedReceipt) (r : NumberedReceipt) : Type 0 where
  pub number : index_of e.0 keys ≡ Some r.number
  pub receipt : r.receipt ≡ e.1
  pub key : key_in r ≡ e.0

-- These receipts are added, and their keys have these numbers.
pub record AddsReceipts (old new : Groups) (receipts : List KeyedReceipt) (made : List NumberedReceipt) : Type 0 where
  pub grouped : AreGrouped new
  pub stay : NumbersStay old.keys.keys.items new.keys.keys.items
  pub groups : (submits : List SubmittedMessage) → HasGroups old submits [] → HasGroups new submits receipts
  pub numbers : AllZip (IsNumberedReceipt new.keys.keys.items) receipts made

-- ---- what is told by that

-- What is kept under a number is what these messages and receipts say of a key, where there is one.
abbrev pub HasGroup : List Group → List SubmittedMessage → List KeyedReceipt → Option LinkKey → Option ℕ → Type 0
HasGroup groups submits receipts None None = ⊤
HasGroup groups submits receipts None (Some number) = ⊥
HasGroup groups submits receipts (Some key) None = ⊥
HasGroup groups submits receipts (Some key) (Some number) = get_or groups number no_group ≡ group_of key submits receipts

-- What is kept under the number of each message is what there is of its key.
abbrev pub AreOfMessages : List Group → List SubmittedMessage → List KeyedReceipt → List SubmittedMessage → List (Option ℕ) → Type 0
AreOfMessages groups submits receipts left numbers =
    AllZip (λ (m : SubmittedMessage) (number : Option ℕ). HasGroup groups submits receipts m.key number) left numbers

-- What is kept under the number of a receipt is what there is of its key.
pub record IsOfReceipt (groups : List Group) (submits : List SubmittedMessage) (receipts : List KeyedReceipt) (e : KeyedReceipt)
    (r : NumberedReceipt) : Type 0 where
  pub group : get_or groups r.number no_group ≡ group_of e.0 submits receipts
  pub receipt : r.receipt ≡ e.1
  pub key : key_in r ≡ e.0

-- the line for a delivery receipt of a key, by which messages match it and which receipt decides these
abbrev pub line_by : Group → LinkKey → PlacedReceipt → ReceiptLineValue
line_by group key r = record {
  link = r.link;
  place = r.place;
  moment = r.moment;
  receipt = r.receipt;
  standing = standing_by (number_in group.found) group.decider r;
  message = place_in group.found;
  key = key.key;
  command = r.command;
}

-- the same by what is kept under its number
abbrev pub line_kept : List Group → NumberedReceipt → ReceiptLineValue
line_kept groups r = line_by (get_or groups r.number no_group) (key_in r) r.receipt

-- the lines for these receipts
abbrev pub lines_kept : List Group → List NumberedReceipt → List ReceiptLineValue
lines_kept groups rs = map (line_kept groups) rs
