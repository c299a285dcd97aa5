-- How often the shelves of what is stored were touched, and what a move of it costs: its touches, with those that settle it.
use Rattle.std.specs.Prelude.{◌≡◌, ◌<◌, ◌≤◌, ◌+◌, ◌*◌, ◌-◌, ◌^◌, ℕ, Bool, false, [], min, Option, Some, None, option_and_then, option_map}
use Rattle.std.specs.FinMap as fin
use Rattle.std.specs.List.{sum_by}
use Rattle.std.specs.Map.{values_of}
use Rattle.smq_kit.specs.LinkKeys.{same_key}
use Rattle.smq_kit.specs.declared.link_key.LinkKey.{LinkKey}
use Rattle.smq_kit.specs.declared.place.Place.{Place}
use Rattle.smq_group.specs.Groups.{GroupsValue, vacancies}
use Rattle.smq_group.specs.Matching.{Grouping, GroupedReceipt}
use Rattle.smq_pair.specs.Paired.{PairedValue}
use Rattle.smq_pair.specs.Pairing.{PairingValue, pair_at}
use Rattle.smq_pair.specs.declared.pairing.Pair.{Pair}
use Rattle.smq_route.specs.Numbers.{NumbersValue}
use Rattle.smq_shelf.specs.Keeping.{Keeping}
use Rattle.smq_shelf.specs.Places.{places_of}
use Rattle.smq_tally.specs.Tally.{TallyValue}
use Rattle.smq_book.specs.declared.index.index.Index.{Index}
use Rattle.smq_book.specs.declared.index.pairings.Pairings.{Pairings}
use Rattle.smq_book.specs.declared.index.stored.Item.{Item}
use Rattle.smq_book.specs.declared.index.stored.Item.TheVariants as said
use Rattle.smq_book.specs.edits.Reach.{members}
use Rattle.smq_book.specs.index.Held.{held_now, held_settled}
use Rattle.smq_book.specs.index.Pairs.{pairs_pending}
use Rattle.smq_present.specs.declared.present.kept.StoredPdu.{StoredPdu}
use Rattle.smq_present.specs.join.Keyed.{accepted_key, receipt_key}
use Rattle.smq_present.specs.present.Settings.{SettingsValue}
use Rattle.smq_present.specs.pairing.Traffic.{Origin, place_of}
use Rattle.smq_kit.specs.declared.place.Dir.{Dir}
use Rattle.smq_kit.specs.declared.place.Dir.TheVariants.{FromClient, FromCentre}

-- a number of touches as it is counted: up to the greatest u64
abbrev pub counted : ℕ → ℕ
counted touches = min touches (2 ^ 64 - 1)

-- those of groups, facts, numbers and deadlines
abbrev pub touches_in : Index → ℕ
touches_in i = i.groups.touches + i.tally.touches + i.numbers.touches + i.due.touches + i.ends.touches

-- the same as they are counted
abbrev pub index_touches : Index → ℕ
index_touches i = counted (touches_in i)

-- those of the pairs of all sessions, and of sessions that went
abbrev pub pairs_touches : Pairings → ℕ
pairs_touches p = counted (p.gone + sum_by (λ (v : PairedValue). v.touches) (values_of p.by_session.entries))

-- and those of all of these
abbrev pub touches_of : Index → Pairings → ℕ
touches_of i p = counted (index_touches i + pairs_touches p)

-- the touches so far, and those that settling what is pending adds at most: two for each change, where undoing adds one
abbrev pub tally_cost : TallyValue → ℕ
tally_cost t = t.touches + 2 * t.pending

abbrev pub numbers_cost : NumbersValue → ℕ
numbers_cost n = n.touches + 2 * n.pending

abbrev pub kept_cost : {K V : Type 0} → Keeping K V → ℕ
kept_cost k = k.touches + 2 * k.pending

-- those of groups, facts, numbers and deadlines
abbrev pub index_cost : Index → ℕ
index_cost i =
    (i.groups.touches + 2 * i.groups.pending) + tally_cost i.tally + numbers_cost i.numbers + kept_cost i.due + kept_cost i.ends

-- and those of the pairs of one session
abbrev pub pairing_cost : PairedValue → ℕ
pairing_cost v = v.touches + 2 * v.pending

-- and of all pairs, where those of one session are pending
abbrev pub pairs_cost : Pairings → ℕ → ℕ
pairs_cost p number = pairs_touches p + 2 * pairs_pending p number

-- how many changes `undo` would take back
abbrev pub pending_in : Index → ℕ
pending_in i = i.groups.pending + i.tally.pending + i.numbers.pending + i.due.pending + i.ends.pending

-- No change is pending, and no place is vacant.
pub record HasNothingPending (i : Index) : Type 0 where
  pub groups : i.groups.pending ≡ 0
  pub facts : i.tally.pending ≡ 0
  pub numbers : i.numbers.pending ≡ 0
  pub due : i.due.pending ≡ 0
  pub ends : i.ends.pending ≡ 0
  pub places_due : i.due.places ≡ places_of i.due.content
  pub places_ends : i.ends.places ≡ places_of i.ends.content
  pub vacant : i.groups.vacant ≡ []
  pub vacant_numbers : i.numbers.vacant ≡ []

-- the key of the receipt at a place, where there is one
abbrev pub receipt_key_at : Grouping → Place → Option LinkKey
receipt_key_at g place = option_map (λ r. r.key) (fin.get g.receipts place)

-- whether there is a key and it is this one
abbrev pub is_key : LinkKey → Option LinkKey → Bool
is_key k None = false
is_key k (Some key) = same_key k key

-- what a move of a key walks over, and fifteen for each member that it may tell
abbrev pub load_of : GroupsValue → Option LinkKey → ℕ
load_of g None = 0
load_of g (Some key) = vacancies g key + 15 * members g.members key

-- the same of something that is taken out, which is a member
abbrev pub taken_of : GroupsValue → Option LinkKey → ℕ
taken_of g None = 0
taken_of g (Some key) = vacancies g key + 33 * members g.members key

-- Members go, and none comes: two places of its key stay vacant for each at most.
pub record MembersGo (old new : GroupsValue) : Type 0 where
  pub submits : (q : Place) (k : LinkKey) → fin.get new.members.submits q ≡ Some k → fin.get old.members.submits q ≡ Some k
  pub receipts : (q : Place) (r : GroupedReceipt) → fin.get new.members.receipts q ≡ Some r → fin.get old.members.receipts q ≡ Some r
  pub fewer : (k : LinkKey) → members new.members k ≤ members old.members k
  pub vacant : (k : LinkKey) → vacancies new k + 2 * members new.members k ≤ vacancies old k + 2 * members old.members k

-- what it costs at most to take the message that a PDU of the client is out, or the delivery receipt that one of the centre is
abbrev pub message_load : GroupsValue → Origin → StoredPdu → ℕ
message_load g origin p = 42 + taken_of g (fin.get g.members.submits (place_of origin FromClient p))

abbrev pub receipt_load : GroupsValue → Origin → StoredPdu → ℕ
receipt_load g origin p = 49 + taken_of g (receipt_key_at g.members (place_of origin FromCentre p))

-- how many members have a key, where there is a key
abbrev pub members_at : Grouping → Option LinkKey → ℕ
members_at g None = 0
members_at g (Some key) = members g key

-- No place of a key is vacant.
pub record HasNoneVacant (g : GroupsValue) : Type 0 where
  pub each : (k : LinkKey) → vacancies g k ≡ 0

-- Members come, and none goes: no more places of a key are vacant.
pub record MembersCome (old new : GroupsValue) : Type 0 where
  pub submits : (q : Place) (k : LinkKey) → fin.get old.members.submits q ≡ Some k → fin.get new.members.submits q ≡ Some k
  pub receipts : (q : Place) (r : GroupedReceipt) → fin.get old.members.receipts q ≡ Some r → fin.get new.members.receipts q ≡ Some r
  pub more : (k : LinkKey) → members old.members k ≤ members new.members k
  pub vacant : (k : LinkKey) → vacancies new k ≤ vacancies old k

-- the key of the message at the request of a pair, where there is one
abbrev pub answered_key : Grouping → Option Pair → Option LinkKey
answered_key g pair = option_and_then (λ pair. fin.get g.submits pair.request) pair

-- what a PDU at a place costs at most that stands in this pair, if any, among these members
abbrev pub push_load : Grouping → Option Pair → Place → ℕ
push_load g pair place =
    55 + 15 * members_at g (fin.get g.submits place) + 43 * members_at g (receipt_key_at g place) + 15 * members_at g (answered_key g pair)

-- the same of a PDU of a direction, among the members and the pairs that there are
abbrev pub pdu_load : Grouping → PairingValue → Origin → Dir → StoredPdu → ℕ
pdu_load g v origin dir p = push_load g (pair_at v (place_of origin dir p)) (place_of origin dir p)

-- the key of what stands at a place: of a message in the client's direction, of a delivery receipt in the centre's
abbrev pub key_in : Dir → Grouping → Place → Option LinkKey
key_in FromClient g q = fin.get g.submits q
key_in FromCentre g q = receipt_key_at g q

-- what it costs at most to take it out
abbrev pub taken_load : GroupsValue → Place → ℕ
taken_load g q = 49 + taken_of g (key_in q.dir g.members q)

-- what a move of a key walks over where so many places are vacant, and fifteen for each of these members that it may tell
abbrev pub walk_of : GroupsValue → Grouping → Option LinkKey → ℕ
walk_of g n None = 0
walk_of g n (Some key) = vacancies g key + 15 * members n key

-- the key of a message, where it is accepted, or of a delivery receipt
abbrev pub said_key : SettingsValue → Item → Option LinkKey
said_key s (said.Message m) = accepted_key s m
said_key s (said.Receipt r) = Some (receipt_key s r)

-- what it costs at most to put it in
abbrev pub put_load : GroupsValue → Grouping → SettingsValue → Place × Item → ℕ
put_load g n s e = 43 + walk_of g n (said_key s e.1)

-- Touches don't fall, and where a fact changes they rise, unless they are at the greatest u64.
pub record RisesWithFacts (old new : Index) : Type 0 where
  pub counted : touches_in old ≤ touches_in new
  pub facts : touches_in new ≡ touches_in old → touches_in old < 2 ^ 64 - 1 → new.tally.facts ≡ old.tally.facts

-- Groups are walked over, and nothing else is touched.
pub record IsRead (old new : Index) : Type 0 where
  pub held : held_now new ≡ held_now old
  pub settled : held_settled new ≡ held_settled old
  pub vacant : new.groups.vacant ≡ old.groups.vacant
  pub counted : touches_in old ≤ touches_in new
  pub facts : new.tally.facts ≡ old.tally.facts
