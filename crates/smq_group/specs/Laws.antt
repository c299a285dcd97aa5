-- What moves of members, and the changes that they tell, mean in plain words.
use Rattle.std.specs.Prelude.{◌≡◌, ◌≢◌, false, List, [], Some, None}
use Rattle.std.specs.FinMap as fin
use Rattle.smq_kit.specs.declared.place.Place.{Place}
use Rattle.smq_kit.specs.declared.link_key.LinkKey.{LinkKey}
use Rattle.smq_kit.specs.LinkKeys.{same_key}
use Rattle.smq_group.specs.declared.change.Change.{Change}
use Rattle.smq_group.specs.Changes.{TellsChanges, submit_at, receipt_at}
use Rattle.smq_group.specs.Groups.{with_submit, without_submit, with_receipt, without_receipt}
use Rattle.smq_group.specs.Matching.{Grouping, GroupedReceipt}

-- there is one list alone that tells what differs
abbrev pub IsToldOneWay : Type 0
IsToldOneWay = (before after : Grouping) (one other : List Change) → TellsChanges before after one → TellsChanges before after other → one ≡ other

-- where each standing is as it was, nothing is told
abbrev pub TellsNothingOfTheSame : Type 0
TellsNothingOfTheSame = (before after : Grouping) (changes : List Change) → ((place : Place) → submit_at after place ≡ submit_at before place)
    → ((place : Place) → receipt_at after place ≡ receipt_at before place) → TellsChanges before after changes → changes ≡ []

-- a submit that comes and goes leaves the members that were
abbrev pub SubmitsLeaveNoTrace : Type 0
SubmitsLeaveNoTrace = (g : Grouping) (key : LinkKey) (place : Place) → fin.get g.submits place ≡ None → without_submit (with_submit g key place) place ≡ g

-- and so does a receipt
abbrev pub ReceiptsLeaveNoTrace : Type 0
ReceiptsLeaveNoTrace = (g : Grouping) (place : Place) (r : GroupedReceipt) → fin.get g.receipts place ≡ None → without_receipt (with_receipt g place r) place ≡ g

-- of two submits, it doesn't matter which comes first
abbrev pub OrderOfSubmitsIsIdle : Type 0
OrderOfSubmitsIsIdle = (g : Grouping) (k l : LinkKey) (p q : Place) → p ≢ q → with_submit (with_submit g k p) l q ≡ with_submit (with_submit g l q) k p

-- nor of two receipts
abbrev pub OrderOfReceiptsIsIdle : Type 0
OrderOfReceiptsIsIdle = (g : Grouping) (r s : GroupedReceipt) (p q : Place) → p ≢ q → with_receipt (with_receipt g p r) q s ≡ with_receipt (with_receipt g q s) p r

-- nor of a submit and a receipt
abbrev pub OrderOfSidesIsIdle : Type 0
OrderOfSidesIsIdle = (g : Grouping) (key : LinkKey) (r : GroupedReceipt) (p q : Place) → with_receipt (with_submit g key p) q r ≡ with_submit (with_receipt g q r) key p

-- a submit that comes leaves the standings of submits and receipts of other keys
abbrev pub SubmitsLeaveOtherKeys : Type 0
SubmitsLeaveOtherKeys = (g : Grouping) (key other : LinkKey) (place q : Place) → fin.get g.submits place ≡ None → same_key key other ≡ false
    → fin.get g.submits q ≡ Some other → submit_at (with_submit g key place) q ≡ submit_at g q
