-- The delivery receipts of a session as a list, and the least of a list.
use Rattle.std.specs.Prelude.{ℕ, ◌&&◌, List, [], ◌∷◌, map, filter, Option, Some, None}
use Rattle.std.specs.List.{flat_map, reduce}
use Rattle.std.specs.declared.cmp.Ordering.{Ordering}
use Rattle.std.specs.Ordering.{nat_cmp, ordering_then, min_by_ordering}
use Rattle.smq_kit.specs.declared.names.LinkId.{LinkId}
use Rattle.smq_kit.specs.declared.place.Dir.TheVariants.{FromCentre}
use Rattle.smq_kit.specs.declared.place.Place.{Place}
use Rattle.smq_kit.specs.Orders.{place_cmp}
use Rattle.smq_receipt.specs.declared.reading.Receipt.{Receipt}
use Rattle.smq_present.specs.declared.present.kept.StoredPdu.{StoredPdu}
use Rattle.smq_kit.specs.declared.link_key.LinkKey.{LinkKey}
use Rattle.smq_present.specs.declared.pairing.pairs.SessionForms.{SessionForms}
use Rattle.smq_present.specs.present.Kept.{receipt_in}
use Rattle.smq_present.specs.join.Keyed.{can_decide}
use Rattle.smq_kit.specs.LinkKeys.{link_key, same_key}

-- a delivery receipt: a deliver_sm or data_sm of the centre (SMPP 3.4, 4.6.1 and 4.7.1) that says what became of a message, with
-- its command_id
pub record PlacedReceipt : Type 0 where
  pub link : LinkId
  pub place : Place
  pub moment : ℕ
  pub receipt : Receipt
  pub command : ℕ

-- a delivery receipt with the key of its id
abbrev pub KeyedReceipt : Type 0
KeyedReceipt = LinkKey × PlacedReceipt

-- the receipt that a PDU of the centre is, with the key of its id under the form of receipts
abbrev pub keyed_receipt : SessionForms → StoredPdu → Receipt → KeyedReceipt
keyed_receipt source p receipt = (
  link_key source.link source.forms.receipt receipt.id,
  record {
    link = source.link;
    place = record { session = source.session; dir = FromCentre; offset = p.offset };
    moment = p.moment;
    receipt = receipt;
    command = p.command;
  },
)

-- a PDU of the centre, where it is this delivery receipt
abbrev pub receipt_by : Option Receipt → SessionForms → StoredPdu → List KeyedReceipt
receipt_by (Some receipt) source p = keyed_receipt source p receipt ∷ []
receipt_by None source p = []

-- the receipts of a session whose PDUs of the centre are these
abbrev pub receipts_among : SessionForms → List StoredPdu → List KeyedReceipt
receipts_among source centre = flat_map (λ p. receipt_by (receipt_in p.content) source p) centre

-- the receipts of a key that can decide
abbrev pub candidates : LinkKey → List KeyedReceipt → List PlacedReceipt
candidates key receipts = map (λ e. e.1) (filter (λ e. same_key key e.0 && can_decide e.1.receipt) receipts)

-- the order of receipts: by moment, then by place
abbrev pub receipt_cmp : PlacedReceipt → PlacedReceipt → Ordering
receipt_cmp a b = ordering_then (nat_cmp a.moment b.moment) (place_cmp a.place b.place)

-- the earlier of two receipts in this order
abbrev pub earlier : PlacedReceipt → PlacedReceipt → PlacedReceipt
earlier a b = min_by_ordering (receipt_cmp a b) a b

-- the least of receipts in this order, where there are any
abbrev pub least_receipt : List PlacedReceipt → Option PlacedReceipt
least_receipt receipts = reduce earlier receipts
