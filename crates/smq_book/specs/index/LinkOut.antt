-- What has a key on a link is taken out of traffic, so that its forms can be set, and put in again.
use Rattle.std.specs.Prelude.{◌==◌, ◌&&◌, Bool, List, [], ◌∷◌, ◌++◌, Option, is_some, map, option_map, option_to_list}
use Rattle.std.specs.FinMap as fin
use Rattle.smq_kit.specs.declared.names.LinkId.{LinkId}
use Rattle.smq_kit.specs.declared.place.Dir.{Dir}
use Rattle.smq_kit.specs.declared.place.Dir.TheVariants.{FromClient, FromCentre}
use Rattle.smq_kit.specs.declared.place.Place.{Place}
use Rattle.smq_kit.specs.Orders.{place_cmp}
use Rattle.smq_book.specs.declared.index.stored.Item.{Item}
use Rattle.smq_book.specs.declared.index.stored.Item.TheVariants as said
use Rattle.smq_book.specs.edits.Reached.{link_receipts, passing}
use Rattle.smq_present.specs.join.Keyed.{accepted_id}
use Rattle.smq_present.specs.join.Moves.{Move, PutMessage, PutReceipt, TakeMessage, TakeReceipt, moved}
use Rattle.smq_present.specs.pairing.Traffic.{Message, ReceivedReceipt, TrafficValue}

-- whether a message is accepted, under whatever forms
abbrev pub is_accepted : Message → Bool
is_accepted m = is_some (accepted_id m.response)

-- the accepted messages of a link: those that have keys
abbrev pub accepted_on : LinkId → TrafficValue → fin.FinMap place_cmp Message
accepted_on link t = passing (λ place m. m.link.0 == link.0 && is_accepted m) t.messages

-- messages at their places, then delivery receipts
abbrev pub all_said : List (Place × Message) → List (Place × ReceivedReceipt) → List (Place × Item)
all_said ms rs = map (λ e. (e.0, said.Message e.1)) ms ++ map (λ e. (e.0, said.Receipt e.1)) rs

-- what has a key on a link: its accepted messages, then its delivery receipts
abbrev pub keyed_on : LinkId → TrafficValue → List (Place × Item)
keyed_on link t = all_said (fin.entries (accepted_on link t)) (fin.entries (link_receipts link t))

-- where it stands
abbrev pub keyed_places : LinkId → TrafficValue → List Place
keyed_places link t = fin.keys (accepted_on link t) ++ fin.keys (link_receipts link t)

-- what stands at a place: a message in the client's direction, a delivery receipt in the centre's
abbrev pub item_in : Dir → TrafficValue → Place → Option Item
item_in FromClient t q = option_map said.Message (fin.get t.messages q)
item_in FromCentre t q = option_map said.Receipt (fin.get t.receipts q)

abbrev pub item_at : TrafficValue → Place → Option Item
item_at t q = item_in q.dir t q

-- it is taken out
abbrev pub take_in : Dir → Place → Move
take_in FromClient q = TakeMessage q
take_in FromCentre q = TakeReceipt q

abbrev pub take_at : Place → Move
take_at q = take_in q.dir q

-- a message or a delivery receipt is put in at its place
abbrev pub put_in : Place → Item → Move
put_in q (said.Message m) = PutMessage (q, m)
put_in q (said.Receipt r) = PutReceipt (q, r)

abbrev pub put_of : Place × Item → Move
put_of e = put_in e.0 e.1

-- what stands at a place, with it
abbrev pub found_at : TrafficValue → Place → List (Place × Item)
found_at t q = option_to_list (option_map (λ x. (q, x)) (item_at t q))

-- what stands at places of which each is taken out in turn
abbrev pub found_in_turn : TrafficValue → List Place → List (Place × Item)
found_in_turn t [] = []
found_in_turn t (q ∷ qs) = found_at t q ++ found_in_turn (moved t (take_at q)) qs
