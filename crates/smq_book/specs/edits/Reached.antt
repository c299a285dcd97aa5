-- The places outside which an edit of what is set changes no fact and no note.
use Rattle.std.specs.Prelude.{◌≡◌, ◌+◌, ◌==◌, ◌&&◌, not, ℕ, Bool, true, false, nat_le, List, [], ◌∷◌, ◌++◌, map, if◌then◌else◌, Some, None, option_map, unwrap_or}
use Rattle.std.specs.FinMap as fin
use Rattle.smq_kit.specs.declared.names.LinkId.{LinkId}
use Rattle.smq_kit.specs.declared.place.Place.{Place}
use Rattle.smq_kit.specs.declared.link_key.LinkKey.{LinkKey}
use Rattle.smq_kit.specs.LinkKeys.{same_key}
use Rattle.smq_kit.specs.Maps.{chosen, SameOutside}
use Rattle.smq_kit.specs.Orders.{place_cmp}
use Rattle.smq_route.specs.Versions.{begins}
use Rattle.smq_tally.specs.declared.outcome.Outcome.{Outcome}
use Rattle.smq_tally.specs.declared.outcome.Outcome.TheVariants as o
use Rattle.smq_present.specs.present.Settings.{SettingsValue}
use Rattle.smq_present.specs.pairing.Traffic.{Message, ReceivedReceipt, TrafficValue}
use Rattle.smq_present.specs.join.Circumstances.{circumstances, window_of}
use Rattle.smq_present.specs.join.Keyed.{accepted_key, receipt_key}
use Rattle.smq_group.specs.Matching.{Grouping, GroupedReceipt}
use Rattle.smq_present.specs.join.Moves.{Move, PutMessage, TakeMessage, PutReceipt, TakeReceipt}
use Rattle.smq_present.specs.join.Outcomes.{outcome_by}

-- the entries of a map by place that pass a test
abbrev pub passing : {X : Type 0} → (Place → X → Bool) → fin.FinMap place_cmp X → fin.FinMap place_cmp X
passing test m = chosen (λ place v. if test place v then Some v else None) m

-- ---- of a link

-- the messages of a link, and its delivery receipts
abbrev pub link_messages : LinkId → TrafficValue → fin.FinMap place_cmp Message
link_messages link t = passing (λ place m. m.link.0 == link.0) t.messages

abbrev pub link_receipts : LinkId → TrafficValue → fin.FinMap place_cmp ReceivedReceipt
link_receipts link t = passing (λ place r. r.link.0 == link.0) t.receipts

-- the traffic without them
abbrev pub without_link : LinkId → TrafficValue → TrafficValue
without_link link t = record t {
  messages = passing (λ place m. not (m.link.0 == link.0)) t.messages;
  receipts = passing (λ place r. not (r.link.0 == link.0)) t.receipts;
}

-- they are taken out
abbrev pub link_takes : LinkId → TrafficValue → List Move
link_takes link t =
    map (λ e. TakeMessage e.0) (fin.entries (link_messages link t))
    ++ map (λ e. TakeReceipt e.0) (fin.entries (link_receipts link t))

-- and put in again
abbrev pub link_puts : LinkId → TrafficValue → List Move
link_puts link t =
    map PutMessage (fin.entries (link_messages link t)) ++ map PutReceipt (fin.entries (link_receipts link t))

-- ---- of a key

-- the messages that are accepted with a key, and the delivery receipts of it
abbrev pub key_submits : Grouping → LinkKey → fin.FinMap place_cmp LinkKey
key_submits g key = passing (λ place k. same_key key k) g.submits

abbrev pub key_receipts : Grouping → LinkKey → fin.FinMap place_cmp GroupedReceipt
key_receipts g key = passing (λ place r. same_key key r.key) g.receipts

-- What stands at a place is of a key: a message that is accepted with it or not at all, and a delivery receipt of it.
pub record IsOfKey (s : SettingsValue) (key : LinkKey) (t : TrafficValue) (q : Place) : Type 0 where
  pub message : (m : Message) (k : LinkKey) → fin.get t.messages q ≡ Some m → accepted_key s m ≡ Some k → k ≡ key
  pub receipt : (r : ReceivedReceipt) → fin.get t.receipts q ≡ Some r → receipt_key s r ≡ key

-- One place is put in or taken out, and what stands or stood there is of one key.
pub record IsMoveOf (key : LinkKey) (q : Place) (g h : Grouping) : Type 0 where
  pub submits : SameOutside (q ∷ []) g.submits h.submits
  pub receipts : SameOutside (q ∷ []) g.receipts h.receipts
  pub submit_before : (k : LinkKey) → fin.get g.submits q ≡ Some k → k ≡ key
  pub submit_after : (k : LinkKey) → fin.get h.submits q ≡ Some k → k ≡ key
  pub receipt_before : (r : GroupedReceipt) → fin.get g.receipts q ≡ Some r → r.key ≡ key
  pub receipt_after : (r : GroupedReceipt) → fin.get h.receipts q ≡ Some r → r.key ≡ key

-- ---- of a prefix

-- whether a message has a number that a prefix begins
abbrev pub is_under : List ℕ → Message → Bool
is_under prefix m = unwrap_or (option_map (λ number. begins number prefix) m.number) false

-- the messages whose numbers a prefix begins
abbrev pub messages_under : List ℕ → TrafficValue → fin.FinMap place_cmp Message
messages_under prefix t = passing (λ place m. is_under prefix m) t.messages

-- ---- of a clock

-- whether an outcome is that of an open message
abbrev pub is_open : Outcome → Bool
is_open o.Open = true
is_open _ = false

-- whether it is that of a lapsed one
abbrev pub is_lapsed : Outcome → Bool
is_lapsed o.Lapsed = true
is_lapsed _ = false

-- whether it is that of a message whose receipt is due: an open or a lapsed one
abbrev pub is_due : Outcome → Bool
is_due o.Open = true
is_due o.Lapsed = true
is_due _ = false

-- what became of a message under what is set
abbrev pub outcome_in : SettingsValue → TrafficValue → Message → Outcome
outcome_in s t m = outcome_by m (circumstances s t m)

-- the open messages whose window has ended by a clock
abbrev pub due_by : SettingsValue → TrafficValue → ℕ → fin.FinMap place_cmp Message
due_by s t clock =
    passing (λ place m. is_open (outcome_in s t m) && nat_le (m.moment + window_of s m.link) clock) t.messages

-- the messages of a link whose receipts are due
abbrev pub messages_due_on : LinkId → SettingsValue → TrafficValue → fin.FinMap place_cmp Message
messages_due_on link s t = passing (λ place m. m.link.0 == link.0 && is_due (outcome_in s t m)) t.messages

-- the messages that are open under what is set and lapsed under what is set then
abbrev pub lapsing : SettingsValue → SettingsValue → TrafficValue → fin.FinMap place_cmp Message
lapsing s z t = passing (λ place m. is_open (outcome_in s t m) && is_lapsed (outcome_in z t m)) t.messages
