-- How much an edit reaches: what bounds its cost.
use Rattle.std.specs.Prelude.{◌+◌, ◌*◌, ℕ, List, [], ◌++◌, map, Option, option_map, option_and_then, unwrap_or}
use Rattle.std.specs.List.{sum_by}
use Rattle.std.specs.Option.{option_or}
use Rattle.std.specs.FinMap as fin
use Rattle.smq_kit.specs.declared.link_key.LinkKey.{LinkKey}
use Rattle.smq_kit.specs.declared.names.LinkId.{LinkId}
use Rattle.smq_kit.specs.declared.place.Dir.TheVariants.{FromClient, FromCentre}
use Rattle.smq_kit.specs.declared.place.Place.{Place}
use Rattle.smq_kit.specs.LinkKeys.{same_key}
use Rattle.smq_kit.specs.Maps.{number_of}
use Rattle.smq_pair.specs.Pairing.{pair_at}
use Rattle.smq_pair.specs.declared.pairing.Pair.{Pair}
use Rattle.smq_present.specs.declared.present.edit.Edit.{Edit}
use Rattle.smq_present.specs.declared.present.edit.Edit.TheVariants.{Append, Withdraw, SetForm, SetWindow, AddRoute, EndRoute, CorrectRoute, Advance}
use Rattle.smq_present.specs.declared.present.session.Session.{Session}
use Rattle.smq_present.specs.present.Batch.{BatchValue, batch_pdus}
use Rattle.smq_present.specs.present.Kept.{kept_pdus}
use Rattle.smq_present.specs.present.Present.{PresentValue, session_of}
use Rattle.smq_present.specs.present.Steps.{step}
use Rattle.smq_present.specs.pairing.Traffic.{TrafficValue, origin_of, place_of, session_pairing, traffic_of}
use Rattle.smq_present.specs.join.Keyed.{grouping_of}
use Rattle.smq_group.specs.Matching.{Grouping, matches}
use Rattle.smq_book.specs.edits.Reached.{link_messages, link_receipts, messages_due_on, messages_under, lapsing}

-- ---- the weight of a PDU

-- the accepted messages and the delivery receipts of a present
abbrev pub groups : PresentValue → Grouping
groups p = grouping_of p.settings (traffic_of p.sessions)

-- how many accepted messages and delivery receipts have a key
abbrev pub members : Grouping → LinkKey → ℕ
members g key = matches g key + number_of (λ r. same_key key r.key) g.receipts

-- the pair in which the PDU at a place stands
abbrev pub pair_in : PresentValue → Place → Option Pair
pair_in p place =
    option_and_then (λ session. pair_at (session_pairing (place.session.0, session)) place)
    (session_of p place.session.0)

-- the key of the PDU at a place: an accepted message has its own, a delivery receipt too, and a response that of its
-- request
abbrev pub key_in : Grouping → Option Pair → Place → Option LinkKey
key_in g pair place =
    option_or (fin.get g.submits place)
    (option_or (option_map (λ r. r.key) (fin.get g.receipts place))
    (option_and_then (λ pair. fin.get g.submits pair.request) pair))

-- the weight of the PDU at a place: 1, and how many have its key
abbrev pub weight : PresentValue → Place → ℕ
weight p place = 1 + unwrap_or (option_map (members (groups p)) (key_in (groups p) (pair_in p place) place)) 0

-- the weights of the PDUs at places
abbrev pub weights : PresentValue → List Place → ℕ
weights p places = sum_by (weight p) places

-- ---- the PDUs that an edit reaches

-- the places of the PDUs that a batch completes
abbrev pub batch_places : BatchValue → List Place
batch_places batch = map (place_of (record { session = batch.session; link = batch.link }) batch.dir) (batch_pdus batch)

-- the places of the PDUs of a session
abbrev pub session_places : ℕ × Session → List Place
session_places e =
    map (place_of (origin_of e) FromClient) (kept_pdus e.1.client)
    ++ map (place_of (origin_of e) FromCentre) (kept_pdus e.1.centre)

-- those of the session of a number, which has none where it is absent
abbrev pub places_in : PresentValue → ℕ → List Place
places_in p number = unwrap_or (option_map (λ session. session_places (number, session)) (session_of p number)) []

-- the places of a link's messages and delivery receipts
abbrev pub link_places : LinkId → TrafficValue → List Place
link_places link t = fin.keys (link_messages link t) ++ fin.keys (link_receipts link t)

-- how much an edit reaches that leads from a present to another
abbrev pub reached : PresentValue → PresentValue → Edit → ℕ
reached p q (Append batch) = weights q (batch_places batch)
reached p q (Withdraw session) = weights p (places_in p session.0)
reached p q (SetForm link response receipt) =
    weights p (link_places link (traffic_of p.sessions)) + weights q (link_places link (traffic_of q.sessions))
reached p q (SetWindow link window) = fin.len (messages_due_on link p.settings (traffic_of p.sessions))
reached p q (AddRoute prefix from route network) = fin.len (messages_under prefix (traffic_of p.sessions))
reached p q (EndRoute prefix from until) = fin.len (messages_under prefix (traffic_of p.sessions))
reached p q (CorrectRoute prefix from route network) = fin.len (messages_under prefix (traffic_of p.sessions))
reached p q (Advance clock) = fin.len (lapsing p.settings q.settings (traffic_of p.sessions))

-- How much an edit reaches. An append: the weights, as it leaves them, of the PDUs that its batch completes. A withdrawal:
-- those of its session's PDUs. Forms: those of the link's messages and delivery receipts, as they were and as they are
-- left. A window: the link's messages that are open or lapsed. An edit of routes: the messages whose numbers its prefix
-- begins. A clock: the messages that it lapses.
abbrev pub reach : PresentValue → Edit → ℕ
reach p edit = reached p (step p edit) edit

-- How many touches an accepted edit adds at most: 64 for each that it reaches, and 64 more.
abbrev pub most_touches : PresentValue → Edit → ℕ
most_touches p edit = 64 * (1 + reach p edit)
