-- What one place that is put in or taken out leaves of facts and notes.
use Rattle.std.specs.Prelude.{◌≡◌, ◌⊎◌, Bool, true, false, List, [], ◌∷◌, fold, Some, None}
use Rattle.std.specs.FinMap as map
use Rattle.std.specs.Ordering.{eq_by_cmp}
use Rattle.smq_kit.specs.declared.place.Place.{Place}
use Rattle.smq_kit.specs.Maps.{chosen, same_option, differing, SameOutside}
use Rattle.smq_kit.specs.Orders.{place_cmp}
use Rattle.smq_tally.specs.declared.list.Listed.{Listed}
use Rattle.smq_present.specs.pairing.Traffic.{TrafficValue, Message, ReceivedReceipt}
use Rattle.smq_group.specs.Matching.{Grouping, Standing, Single, Shared, submit_standing, ReceiptStanding, Stray, Deciding, Extra, Noted, KeyShared, receipt_standing}

-- how each accepted message stands
abbrev pub standings_of : Grouping → map.FinMap place_cmp Standing
standings_of g = chosen (λ place key. Some (submit_standing g key)) g.submits

-- whether two standings are one
abbrev pub same_standing : Standing → Standing → Bool
same_standing Shared Shared = true
same_standing (Single d) (Single e) = same_option (eq_by_cmp place_cmp) d e
same_standing _ _ = false

-- the places of the messages whose standings differ
abbrev pub changes_of : Grouping → Grouping → List Place
changes_of g h = differing same_standing (standings_of g) (standings_of h)

-- how each delivery receipt stands
abbrev pub receipt_standings_of : Grouping → map.FinMap place_cmp ReceiptStanding
receipt_standings_of g = chosen (λ place r. Some (receipt_standing g place r)) g.receipts

-- whether two standings of receipts are one
abbrev pub same_receipt_standing : ReceiptStanding → ReceiptStanding → Bool
same_receipt_standing Stray Stray = true
same_receipt_standing Deciding Deciding = true
same_receipt_standing Extra Extra = true
same_receipt_standing Noted Noted = true
same_receipt_standing KeyShared KeyShared = true
same_receipt_standing _ _ = false

-- the places of the receipts whose standings differ: one that is put in or taken out is among them
abbrev pub receipt_changes_of : Grouping → Grouping → List Place
receipt_changes_of g h = differing same_receipt_standing (receipt_standings_of g) (receipt_standings_of h)

-- A message or a receipt is put in or taken out at one place: the rest stays, and one of both has no receipt there.
pub record IsMove (q : Place) (t u : TrafficValue) : Type 0 where
  pub messages : SameOutside (q ∷ []) t.messages u.messages
  pub receipts : SameOutside (q ∷ []) t.receipts u.receipts
  pub absent : (map.get t.receipts q ≡ None) ⊎ (map.get u.receipts q ≡ None)

-- the four moves
abbrev pub put_message : Place → Message → TrafficValue → TrafficValue
put_message q m t = record t { messages = map.insert t.messages q m }

abbrev pub take_message : Place → TrafficValue → TrafficValue
take_message q t = record t { messages = map.remove t.messages q }

abbrev pub put_receipt : Place → ReceivedReceipt → TrafficValue → TrafficValue
put_receipt q r t = record t { receipts = map.insert t.receipts q r }

abbrev pub take_receipt : Place → TrafficValue → TrafficValue
take_receipt q t = record t { receipts = map.remove t.receipts q }

-- a message, a delivery receipt or a note that is put in or taken out
pub data Move : Type 0 where
  PutMessage : Place × Message → Move
  TakeMessage : Place → Move
  PutReceipt : Place × ReceivedReceipt → Move
  TakeReceipt : Place → Move
  PutNote : Listed → Move
  TakeNote : Listed → Move

-- traffic after a move
abbrev pub moved : TrafficValue → Move → TrafficValue
moved t (PutMessage e) = put_message e.0 e.1 t
moved t (TakeMessage q) = take_message q t
moved t (PutReceipt e) = put_receipt e.0 e.1 t
moved t (TakeReceipt q) = take_receipt q t
moved t (PutNote note) = record t { notes = map.insert t.notes note tt }
moved t (TakeNote note) = record t { notes = map.remove t.notes note }

-- traffic after moves, in turn
abbrev pub moved_by : TrafficValue → List Move → TrafficValue
moved_by t moves = fold moved t moves
