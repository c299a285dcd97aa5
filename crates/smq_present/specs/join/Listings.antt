-- Which delivery receipts need a look.
use Rattle.std.specs.Prelude.{◌≡◌, Bool, true, false, not, List, [], ◌∷◌, ◌++◌, map, Option, Some, None, option_map, option_to_list}
use Rattle.std.specs.List.{AllByRecursion, flat_map, list_any}
use Rattle.std.specs.Ordering.{eq_by_cmp, nat_cmp}
use Rattle.std.specs.FinMap as map
use Rattle.std.specs.FinSet.{FinSet}
use Rattle.smq_kit.specs.declared.place.Place.{Place}
use Rattle.smq_tally.specs.declared.list.List as l
use Rattle.smq_tally.specs.declared.list.List.TheVariants.{StrayReceipts, AmbiguousReceipts, ExtraReceipts}
use Rattle.smq_tally.specs.declared.list.Listed.{Listed}
use Rattle.smq_tally.specs.Lists.{list_rank, listed, listed_cmp, listed_set}
use Rattle.smq_present.specs.present.Settings.{SettingsValue}
use Rattle.smq_present.specs.pairing.Traffic.{TrafficValue}
use Rattle.smq_present.specs.join.Keyed.{grouping_of}
use Rattle.smq_group.specs.Matching.{Grouping, GroupedReceipt, ReceiptStanding, Stray, KeyShared, Extra, receipt_standing}

-- the lists of delivery receipts
abbrev pub receipt_lists : List l.List
receipt_lists = StrayReceipts ∷ AmbiguousReceipts ∷ ExtraReceipts ∷ []

-- whether two lists are one
abbrev pub same_list : l.List → l.List → Bool
same_list a b = eq_by_cmp nat_cmp (list_rank a) (list_rank b)

-- whether there is a list and it is the one of this name
abbrev pub is_named : l.List → Option l.List → Bool
is_named name None = false
is_named name (Some list) = same_list name list

-- whether a list is of delivery receipts
abbrev pub is_receipt_list : l.List → Bool
is_receipt_list list = list_any (same_list list) receipt_lists

-- whether it is none of those, but one of requests, responses and PDUs
abbrev pub is_traffic_list : l.List → Bool
is_traffic_list list = not (is_receipt_list list)

-- No note is in a list of receipts.
abbrev pub AllTraffic : List Listed → Type 0
AllTraffic notes = AllByRecursion (λ note. is_traffic_list note.list ≡ true) notes

-- the list of the delivery receipts that stand so, if there is one
abbrev pub list_of_standing : ReceiptStanding → Option l.List
list_of_standing Stray = Some StrayReceipts
list_of_standing KeyShared = Some AmbiguousReceipts
list_of_standing Extra = Some ExtraReceipts
list_of_standing _ = None

-- a delivery receipt in its list, if it has one
abbrev pub receipt_listing : Grouping → Place × GroupedReceipt → Option Listed
receipt_listing g e = option_map (λ list. listed list e.0) (list_of_standing (receipt_standing g e.0 e.1))

-- the delivery receipts that need a look, in their lists
abbrev pub receipt_notes : Grouping → List Listed
receipt_notes g = flat_map (λ e. option_to_list (receipt_listing g e)) (map.entries g.receipts)

-- the places that need a look, in their lists: those of the traffic, and its delivery receipts, under what is set
abbrev pub notes_of : SettingsValue → TrafficValue → FinSet listed_cmp
notes_of s t = listed_set (map.keys t.notes ++ receipt_notes (grouping_of s t))

-- places in each of the lists of delivery receipts
abbrev pub receipt_listings : List Place → List Listed
receipt_listings places = flat_map (λ list. map (listed list) places) receipt_lists
