-- Which delivery receipts decide which accepted messages: by the keys of their ids, each on its link.
use Rattle.std.specs.Prelude.{◌≡◌, ◌≢◌, ℕ, ◌==◌, ◌&&◌, not, Bool, true, false, List, map, filter, if◌then◌else◌, Option, Some, None, option_map}
use Rattle.std.specs.List.{reduce}
use Rattle.std.specs.declared.cmp.Ordering.{Ordering}
use Rattle.std.specs.FinMap as map
use Rattle.std.specs.Ordering.{nat_cmp, ordering_then, min_by_ordering, is_gt, eq_by_cmp}
use Rattle.smq_kit.specs.declared.place.Place.{Place}
use Rattle.smq_kit.specs.Maps.{number_of, same_option}
use Rattle.smq_kit.specs.Orders.{place_cmp}
use Rattle.smq_kit.specs.declared.link_key.LinkKey.{LinkKey}
use Rattle.smq_kit.specs.LinkKeys.{same_key}

-- what matching asks of a delivery receipt: its key, its moment, and whether it can decide
pub record GroupedReceipt : Type 0 where
  pub key : LinkKey
  pub moment : ℕ
  pub decides : Bool

-- accepted messages by their keys, and delivery receipts, by place
pub record Grouping : Type 0 where
  pub submits : map.FinMap place_cmp LinkKey
  pub receipts : map.FinMap place_cmp GroupedReceipt

-- how many messages are accepted with a key
abbrev pub matches : Grouping → LinkKey → ℕ
matches g key = number_of (same_key key) g.submits

-- a delivery receipt that can decide: its moment and its place
abbrev pub Candidate : Type 0
Candidate = ℕ × Place

-- the delivery receipts of a key that can decide
abbrev pub candidates : Grouping → LinkKey → List Candidate
candidates g key =
    map (λ e. (e.1.moment, e.0)) (filter (λ e. same_key key e.1.key && e.1.decides) (map.entries g.receipts))

-- by moment, then by place
abbrev pub candidate_cmp : Candidate → Candidate → Ordering
candidate_cmp a b = ordering_then (nat_cmp a.0 b.0) (place_cmp a.1 b.1)

-- the earlier of two in this order
abbrev pub earlier : Candidate → Candidate → Candidate
earlier a b = min_by_ordering (candidate_cmp a b) a b

-- the place of the receipt that decides: the earliest that can
abbrev pub decider : Grouping → LinkKey → Option Place
decider g key = option_map (λ c. c.1) (reduce earlier (candidates g key))

-- how an accepted message stands: its key is single, with the place of the receipt that decides where there is one, or
-- shared with another
pub data Standing : Type 0 where
  Single : Option Place → Standing
  Shared : Standing

-- the standing of the messages that are accepted with a key
abbrev pub submit_standing : Grouping → LinkKey → Standing
submit_standing g key = if matches g key == 1 then Single (decider g key) else Shared

-- the place of the receipt that decides
abbrev pub decided_by : Standing → Option Place
decided_by (Single place) = place
decided_by Shared = None

-- how a delivery receipt stands: where no message is accepted with its key, it is stray; where one is, it decides that
-- message, or is extra, if it can decide and another does, or noted, if it can't; where more are, its key is shared
pub data ReceiptStanding : Type 0 where
  Stray : ReceiptStanding
  Deciding : ReceiptStanding
  Extra : ReceiptStanding
  Noted : ReceiptStanding
  KeyShared : ReceiptStanding

-- a delivery receipt at a place is the one that decides the messages of its key
abbrev pub is_decider : Grouping → Place → LinkKey → Bool
is_decider g place key = same_option (eq_by_cmp place_cmp) (decider g key) (Some place)

-- the standing of a delivery receipt at a place
abbrev pub receipt_standing : Grouping → Place → GroupedReceipt → ReceiptStanding
receipt_standing g place r =
    if matches g r.key == 0 then Stray
    else if not (matches g r.key == 1) then KeyShared
    else if is_decider g place r.key then Deciding
    else if r.decides then Extra else Noted

-- ---- what these mean, place by place

-- A message is accepted with a key at this place, and at no other.
pub record IsSingle (g : Grouping) (key : LinkKey) (place : Place) : Type 0 where
  pub here : map.get g.submits place ≡ Some key
  pub elsewhere : (other : Place) → other ≢ place → map.get g.submits other ≢ Some key

-- A delivery receipt of the key that can decide stands at a place.
pub record CanDecide (g : Grouping) (key : LinkKey) (moment : ℕ) (place : Place) : Type 0 where
  pub stands : map.get g.receipts place ≡ Some (record { key = key; moment = moment; decides = true })

-- It is one of those that can, and comes after none of them by moment, and by place where moments are one.
pub record IsEarliest (g : Grouping) (key : LinkKey) (place : Place) : Type 0 where
  pub moment : ℕ
  pub can : CanDecide g key moment place
  pub after_none : (other_moment : ℕ) (other : Place) → CanDecide g key other_moment other
      → is_gt (candidate_cmp (moment, place) (other_moment, other)) ≡ false

-- A delivery receipt stands at a place, and no message is accepted with its key.
pub record IsStray (g : Grouping) (place : Place) : Type 0 where
  pub receipt : GroupedReceipt
  pub stands : map.get g.receipts place ≡ Some receipt
  pub unmatched : (message : Place) → map.get g.submits message ≢ Some receipt.key

-- A delivery receipt stands at a place, and messages at two places are accepted with its key.
pub record HasSharedKey (g : Grouping) (place : Place) : Type 0 where
  pub receipt : GroupedReceipt
  pub stands : map.get g.receipts place ≡ Some receipt
  pub one : Place
  pub other : Place
  pub apart : one ≢ other
  pub first : map.get g.submits one ≡ Some receipt.key
  pub second : map.get g.submits other ≡ Some receipt.key

-- A delivery receipt that can decide stands at a place, one message alone is accepted with its key, and another receipt
-- decides that.
pub record IsExtra (g : Grouping) (place : Place) : Type 0 where
  pub receipt : GroupedReceipt
  pub stands : map.get g.receipts place ≡ Some receipt
  pub message : Place
  pub alone : IsSingle g receipt.key message
  pub can : receipt.decides ≡ true
  pub decided : decider g receipt.key ≢ Some place
