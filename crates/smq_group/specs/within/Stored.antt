-- The members as the code keeps them: by key and place in four maps, from which the grouping by place follows.
use Rattle.std.specs.Prelude.{ℕ, ◌≡◌, ◌==◌, ◌&&◌, not, Bool, true, false, if◌then◌else◌, List, [], ◌∷◌, map, Option, Some, None, option_map, ⊤}
use Rattle.std.specs.List.{reduce}
use Rattle.std.specs.FinMap as fin
use Rattle.std.specs.FinMap.{find}
use Rattle.std.specs.Map.{lookup, remove_entry}
use Rattle.std.specs.BTreeMap.{insert_entry, is_at}
use Rattle.smq_kit.specs.declared.place.Place.{Place}
use Rattle.smq_kit.specs.declared.link_key.LinkKey.{LinkKey}
use Rattle.smq_kit.specs.Maps.{number_of}
use Rattle.smq_kit.specs.Orders.{place_cmp}
use Rattle.smq_kit.specs.LinkKeys.{same_key}
use Rattle.smq_shelf.specs.Keeping.{Keeping}
use Rattle.smq_shelf.specs.Places.{content_of}
use Rattle.smq_group.specs.declared.member.Member.{Member}
use Rattle.smq_group.specs.declared.member.Candidate.{Candidate}
use Rattle.smq_group.specs.declared.member.ReceiptFacts.{ReceiptFacts}
use Rattle.smq_group.specs.declared.group_summary.Group.{Group}
use Rattle.smq_group.specs.declared.group_summary.GroupSummary.{GroupSummary}
use Rattle.smq_group.specs.declared.group_summary.Earliest.{Earliest}
use Rattle.smq_group.specs.Matching as m
use Rattle.smq_group.specs.Matching.{Grouping, GroupedReceipt, matches, candidates, earlier}
use Rattle.smq_group.specs.within.Orders.{kept_candidate_cmp}
use Rattle.smq_group.specs.within.Walked.{candidate_at, members_in, only_of}
use Rattle.smq_group.specs.within.Outlooks.{is_decided_by, only_at, outlook_at}

-- a member of a map by key and place, as an entry by place
abbrev pub by_place : {V W : Type 0} → (LinkKey → V → W) → Member × V → Place × W
by_place value e = (e.0.place, value e.0.key e.1)

-- what is grouped of a submit
abbrev pub submit_value : LinkKey → Bool → LinkKey
submit_value key _ = key

-- what is grouped of a receipt
abbrev pub receipt_value : LinkKey → ReceiptFacts → GroupedReceipt
receipt_value key said = record { key = key; moment = said.moment; decides = said.decides }

-- the grouping that such maps are
abbrev pub grouping_in : List (Member × Bool) → List (Member × ReceiptFacts) → Grouping
grouping_in submits receipts = record {
  submits = fin.from_entries (map (by_place submit_value) submits);
  receipts = fin.from_entries (map (by_place receipt_value) receipts);
}

-- No place stands twice, under whatever keys.
abbrev pub StandsOnce : {V W : Type 0} → (LinkKey → V → W) → List (Member × V) → Type 0
StandsOnce value [] = ⊤
StandsOnce value (e ∷ es) = (find place_cmp e.0.place (map (by_place value) es) ≡ None) × StandsOnce value es

-- the key of a member, as it is kept
abbrev pub member_of : LinkKey → Place → Member
member_of key place = record { key = key; place = place }

-- with a receipt more that waits, if one is given
abbrev pub with_waiting : {V : Type 0} → LinkKey → Option Earliest → V → List (Candidate × V) → List (Candidate × V)
with_waiting key None v es = es
with_waiting key (Some e) v es = insert_entry kept_candidate_cmp es (candidate_at key e) v

-- without a receipt that waited, if one is given
abbrev pub without_waiting : LinkKey → Option Earliest → List (Candidate × Bool) → List (Candidate × Bool)
without_waiting key None es = es
without_waiting key (Some e) es = remove_entry (is_at (kept_candidate_cmp (candidate_at key e))) es

-- whether what stands at a place is a receipt of a key and moment that can decide
abbrev pub is_candidate : Candidate → Option GroupedReceipt → Bool
is_candidate c None = false
is_candidate c (Some r) = same_key c.key r.key && r.moment == c.moment && r.decides

-- a candidate, as it is kept
abbrev pub earliest_at : m.Candidate → Earliest
earliest_at c = record { moment = c.0; place = c.1 }

-- how many receipts have a key
abbrev pub received : Grouping → LinkKey → ℕ
received g key = number_of (λ (r : GroupedReceipt). same_key key r.key) g.receipts

-- what all standings of a key's members rest on
abbrev pub outlook_in : Grouping → LinkKey → GroupSummary
outlook_in g key = record { matches = matches g key; receipts = received g key; decider = option_map earliest_at (reduce earlier (candidates g key)) }

-- whether a receipt of a key waits: it can decide, and another does
abbrev pub waits : Grouping → Candidate → Bool
waits g c = is_candidate c (fin.get g.receipts c.place) && not (is_decided_by (outlook_in g c.key) c.place)

-- what waits no more once a receipt is taken out: where that decided, the one that does then, and else itself, where it can
abbrev pub gone_of : Bool → Bool → Option Earliest → Earliest → Option Earliest
gone_of decides decided next own = if decides then (if decided then next else Some own) else None

-- The index of candidates that wait, and the outlooks by key, are those of a grouping.
pub record IsIndexed (g : Grouping) (index : List (Candidate × Bool)) (outlooks : List (LinkKey × Group)) : Type 0 where
  pub candidates : (c : Candidate) → lookup (is_at (kept_candidate_cmp c)) index ≡ (if waits g c then Some true else None)
  pub outlook : (key : LinkKey) → outlook_at key outlooks ≡ outlook_in g key

-- The four maps hold a grouping.
pub record AreStored (submits : List (Member × Bool)) (receipts : List (Member × ReceiptFacts)) (index : List (Candidate × Bool)) (outlooks : List (LinkKey × Group)) : Type 0 where
  pub submits_once : StandsOnce submit_value submits
  pub receipts_once : StandsOnce receipt_value receipts
  pub indexed : IsIndexed (grouping_in submits receipts) index outlooks
  pub only : (key : LinkKey) → only_at key outlooks ≡ only_of (members_in key submits)

-- What a receipt that was put in or taken out changed can be taken back: the two maps' last changes are these.
pub record CanTakeBack (decides : Bool) (r : Keeping Member ReceiptFacts) (c : Keeping Candidate Bool) (r' : Keeping Member ReceiptFacts) (c' : Keeping Candidate Bool) : Type 0 where
  pub receipts : r'.past ≡ r.places ∷ r.past
  pub shown : r.content ≡ content_of r.places
  pub candidates : decides ≡ true → c'.past ≡ c.places ∷ c.past
  pub shown_candidates : decides ≡ true → c.content ≡ content_of c.places
  pub unchanged : decides ≡ false → c'.content ≡ c.content
